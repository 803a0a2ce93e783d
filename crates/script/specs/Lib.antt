-- What the contracts of the script's text cite.
-- Assumes nothing.
pub mod Texts
pub mod Decimal
pub mod Calls
pub mod Grammar
pub mod Parse
