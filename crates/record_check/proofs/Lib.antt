pub mod FrameWays
pub mod BodyWays
pub mod LoopWays
pub mod CertificateWays
pub mod LassoWays
pub mod CheckAnswers
