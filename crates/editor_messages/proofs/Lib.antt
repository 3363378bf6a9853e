pub mod LastItem
mod Lengths
pub mod Running
pub mod Writable
