pub mod Typing
pub mod KeptLines
pub mod Mapped
pub mod Playing
pub mod Stepping
mod FirstLine
mod Continued
pub mod Accepting
pub mod Switching
