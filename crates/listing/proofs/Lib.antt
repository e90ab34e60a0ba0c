-- The modules of this folder.
pub mod Halt
pub mod Turn
pub mod Length
pub mod Examples
pub mod Places
