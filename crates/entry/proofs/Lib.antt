pub mod Edges
pub mod Absent
pub mod Put
pub mod Shape
