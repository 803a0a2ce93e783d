pub mod Seeing
pub mod Leaving
pub mod Filling
pub mod Judging
