pub mod Decoding
pub mod Clocks
pub mod Writing
pub mod InTurn
pub mod Pruning
pub mod Claimed
pub mod LeftOut
pub mod Restored
