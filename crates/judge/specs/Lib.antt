pub mod View
pub mod Over
pub mod Answers
pub mod Verdict
