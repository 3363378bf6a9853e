pub mod ExpectedAnswers
pub mod Blank
pub mod Reports
