pub mod Admission
pub mod Bundle
pub mod Taken
pub mod Lines
