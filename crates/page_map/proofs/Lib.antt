pub mod Counting
pub mod Decoding
pub mod Marks
