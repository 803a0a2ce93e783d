-- Laws of the script's text.
-- Assumes nothing.
pub mod Digits
pub mod Grammar
pub mod Table
