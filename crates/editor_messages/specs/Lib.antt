pub mod Frames
pub mod Inputs
pub mod Messages
pub mod Protocol
pub mod Queries
pub mod Sent
pub mod Serving
