-- Lemmas of this crate.
mod Written
