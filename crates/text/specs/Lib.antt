-- The modules of this folder, in reading order.
pub mod Text
pub mod Writer
pub mod Numbers
pub mod Bytes
