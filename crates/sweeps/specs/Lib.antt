pub mod Closing
pub mod Pruning
