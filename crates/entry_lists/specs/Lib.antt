pub mod Tests
pub mod Runs
