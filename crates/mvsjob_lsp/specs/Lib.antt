pub mod Answering
pub mod Sessions
pub mod Tokens
pub mod Values
