pub mod Plain
mod Closings
pub mod Heard
pub mod Paged
pub mod Served
mod GrantedPlaces
mod Drawing
mod Labels
mod Numbered
mod DrawnEnds
mod DrawnReleases
mod DrawnGrants
mod DrawnPools
mod Readied
mod Handed
mod DrawnGifts
mod DrawnAnswers
mod DrawnPoolAnswers
mod AreasRead
mod DrawnLines
mod DrawnRuns
