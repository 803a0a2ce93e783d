pub mod Split
pub mod Read
pub mod Down
