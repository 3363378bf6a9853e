pub mod Boundary
pub mod Starts
