-- Rows of bytes, and pages cut from them.
pub mod Rows
pub mod Pages
pub mod BorrowsRegion
-- The definitions below the region.
pub mod Ownership
pub mod BorrowsRaw
pub mod BorrowsBlock
