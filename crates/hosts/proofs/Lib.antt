pub mod Sizes
pub mod Comes
pub mod Goes
pub mod Reported
pub mod Worked
