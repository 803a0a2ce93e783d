pub mod Props
pub mod Stored
pub mod Fronts
pub mod Roster
pub mod Issuers
pub mod Departures
pub mod Counts
pub mod Leaving
