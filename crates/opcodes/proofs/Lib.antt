-- The modules of this folder.
pub mod Codes
pub mod Counts
pub mod Entries
pub mod Totals
pub mod Twelve
