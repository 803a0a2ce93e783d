pub mod Counting
pub mod Rebuilding
pub mod Resolving
