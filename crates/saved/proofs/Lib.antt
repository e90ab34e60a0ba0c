-- The modules of this folder.
pub mod Put
pub mod Passed
pub mod Numbers
pub mod Between
pub mod Back
pub mod Saved
pub mod Loaded
pub mod Trip
pub mod Refused
pub mod Unique
