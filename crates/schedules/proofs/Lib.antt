mod Branches
mod Counted
mod Distinct
mod Followed
mod Joined
pub mod Mapped
mod Placing
mod Refused
mod Renumbering
mod Reordered
mod Statements
mod Tallied
