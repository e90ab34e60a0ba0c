-- The modules of this folder.
pub mod Laws
pub mod Turn
pub mod Passed
pub mod Calls
pub mod Outcomes
