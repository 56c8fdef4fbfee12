pub mod Ended
pub mod Runs
pub mod Told
pub mod VerifyText
pub mod code
pub mod AnswersVerify
pub mod Complete
