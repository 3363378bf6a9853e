mod Words
mod Queues
pub mod Free
