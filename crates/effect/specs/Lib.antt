-- The modules of this folder, in reading order.
pub mod Registers
pub mod Pairs
pub mod Kept
pub mod Bus
pub mod Effect
pub mod Last
