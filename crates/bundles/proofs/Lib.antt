pub mod Answering
pub mod Going
pub mod Joined
