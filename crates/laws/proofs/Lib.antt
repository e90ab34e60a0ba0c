-- The modules of this folder.
pub mod Chunks
pub mod Every
pub mod Last
pub mod Listed
pub mod Order
pub mod Tests
pub mod Unique
