-- Lemmas of this crate.
mod Parts
pub mod Cut
mod SameNumbers
mod ListItems
mod Unknown
mod FirstUnset
mod KeyPlaces
pub mod Taking
mod Conflicts
mod ListsRead
mod Gifted
mod Facts
pub mod Rowing
pub mod Stating
mod InRanges
pub mod Showing
pub mod Named
mod Fitting
mod Fronts
mod Remarks
mod PlainLines
mod PrintedBytes
mod FormTexts
