-- Rows of bytes and pages, which the region's proofs cite.
mod Runs
mod Overlays
mod Masks
pub mod PageRows
mod PageBytes
mod Parts
mod Copies
-- Memory, which the walks of the functions with raw pointers cite.
mod Walks
mod Starts
mod Cuts
mod Readers
mod LendTwo
mod LendOne
mod Blocks
