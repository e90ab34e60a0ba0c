-- The modules of this folder.
pub mod Flags
pub mod Sums
pub mod Logic
pub mod Accumulator
pub mod Words
pub mod Groups
