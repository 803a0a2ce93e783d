pub mod Hosts
pub mod Worked
