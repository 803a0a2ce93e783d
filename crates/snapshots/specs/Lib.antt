pub mod Form
pub mod History
pub mod Restore
pub mod Put
pub mod Whole
