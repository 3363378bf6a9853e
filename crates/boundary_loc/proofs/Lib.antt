pub mod Deciding
pub mod Multiples
pub mod Next
pub mod Last
