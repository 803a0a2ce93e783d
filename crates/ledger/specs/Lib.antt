pub mod Contents
pub mod Meets
