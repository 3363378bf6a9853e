pub mod Types
pub mod Requested
pub mod Going
mod FirstFault
mod Sparing
mod Owned
pub mod Kept
pub mod Pages
pub mod PartsApart
pub mod RegionsKept
pub mod Sized
pub mod SmallLaws
pub mod LabelCases
pub mod LinkLess
pub mod LinkGrant
pub mod Spots
pub mod LinkWrite
pub mod LinkGone
pub mod LinkNames
pub mod LinkFree
pub mod TidyCases
pub mod TidyReleases
pub mod TidyAccess
pub mod TidyAsks
pub mod Counting
pub mod WithinKept
pub mod TidySteps
pub mod OneWalk
pub mod OneLabels
mod EitherWay
pub mod Determined
mod Taking
pub mod TidyMoves
mod InFull
pub mod TidyBusy
pub mod TidyGiven
pub mod ReadingExamples
pub mod Walking
pub mod Refusals
