pub mod Several
pub mod Listing
pub mod Pruning
pub mod Reporting
