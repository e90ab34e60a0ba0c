-- The modules of this folder.
pub mod Written
pub mod Writer
pub mod Decimal
pub mod Room
pub mod Bytes
pub mod Examples
