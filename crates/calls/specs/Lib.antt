pub mod Fresh
pub mod Terminals
pub mod Naming
pub mod Refusals
pub mod Release
