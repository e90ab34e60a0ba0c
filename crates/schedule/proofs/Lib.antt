-- The modules of this folder.
pub mod Rows
pub mod Cursor
pub mod Sorted
