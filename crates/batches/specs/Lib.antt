pub mod Abandoned
pub mod Rulings
