pub mod Forms
pub mod Groups
pub mod Lines
pub mod Built
pub mod Bundles
