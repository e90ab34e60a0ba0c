-- The modules of this folder.
pub mod Choice
pub mod Lists
