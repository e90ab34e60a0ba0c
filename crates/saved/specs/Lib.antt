-- The modules of this folder, in reading order.
pub mod Header
pub mod Fields
pub mod Answer
pub mod Check
pub mod Outcome
