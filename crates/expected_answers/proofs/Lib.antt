-- Lemmas; Cutting serves the crate above too.
mod Blanking
mod Arrows
pub mod Cutting
mod Foreign
mod Texts
mod Walking
