-- the line of a certificate
pub mod VerdictLines
-- words and lines as bytes
pub mod Words
