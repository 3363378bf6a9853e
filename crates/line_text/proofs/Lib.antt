-- Lemmas of this crate; Appending serves the crates above too.
mod SameNames
pub mod Appending
pub mod PrintedDigits
