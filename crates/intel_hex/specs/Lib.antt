-- The modules of this folder, in reading order.
pub mod Answer
pub mod Lines
pub mod Digits
pub mod Record
pub mod Read
pub mod Write
pub mod Outcome
pub mod Trip
