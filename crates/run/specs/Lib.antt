-- The modules of this folder, in reading order.
pub mod State
pub mod Run
pub mod Answer
pub mod Check
pub mod Outcome
pub mod Going
