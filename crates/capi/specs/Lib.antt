-- The modules of this folder, in reading order.
pub mod Flat
pub mod Handed
pub mod Numbers
pub mod Calls
