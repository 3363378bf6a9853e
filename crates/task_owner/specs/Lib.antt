pub mod Tasks
pub mod Seats
pub mod Family
pub mod Handing
