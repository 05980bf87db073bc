pub mod SettlingWays
pub mod KindWays
pub mod AnswerWays
pub mod CertificateWays
pub mod OneAnswer
