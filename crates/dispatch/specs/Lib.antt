pub mod Changing
pub mod Reading
