-- How far a step has come, and what a call answered.
pub mod Step
pub mod Replying
