-- The modules of this folder, in reading order.
pub mod Record
pub mod Cycle
pub mod Ending
pub mod Step
pub mod Look
pub mod Request
pub mod Row
pub mod Well
