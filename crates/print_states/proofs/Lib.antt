-- The modules of this folder.
pub mod Whole
pub mod Halted
