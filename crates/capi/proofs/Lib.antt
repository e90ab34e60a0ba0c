-- The modules of this folder.
pub mod Zeros
pub mod Runs
pub mod Loads
pub mod Back
pub mod Onward
pub mod Trip
pub mod Unique
pub mod Put
