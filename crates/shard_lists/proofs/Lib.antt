pub mod Gather
pub mod Trie
pub mod OnFile
pub mod Crossing
pub mod Listed
