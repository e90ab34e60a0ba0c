-- The modules of this folder, in reading order.
pub mod Instructions
pub mod Condition
pub mod Codes
pub mod Cycles
pub mod Kinds
pub mod Entries
pub mod Totals
