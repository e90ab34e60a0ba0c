-- The modules of this folder.
pub mod Idle
pub mod Operands
pub mod After
