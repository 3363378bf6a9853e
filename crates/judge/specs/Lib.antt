pub mod Judging
pub mod Deciding
pub mod Outline
pub mod Excluding
pub mod Reporting
pub mod Shapes
