mod Giving
pub mod Lines
pub mod Reading
