-- The laws: what they say, the label machine, and small laws over examples.
pub mod Labels
pub mod Tidy
pub mod Going
pub mod Laws
pub mod LeavesUntouched
pub mod TidyExamples
pub mod Examples
pub mod Refusals
