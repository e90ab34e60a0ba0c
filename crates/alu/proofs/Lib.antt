-- The modules of this folder.
pub mod Laws
pub mod Examples
pub mod Parity
