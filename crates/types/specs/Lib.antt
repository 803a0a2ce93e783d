pub mod Transactions
pub mod Refusals
