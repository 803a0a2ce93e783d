pub mod Single
pub mod Empties
pub mod Departing
pub mod Named
pub mod Admitting
