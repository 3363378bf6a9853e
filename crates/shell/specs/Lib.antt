pub mod Cleaning
pub mod Inputs
pub mod Scripts
pub mod Edits
