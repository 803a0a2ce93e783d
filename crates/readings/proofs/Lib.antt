pub mod Looked
pub mod Written
