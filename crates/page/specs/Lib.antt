pub mod Changes
pub mod Lines
pub mod Markup
pub mod Pages
pub mod Items
pub mod Picture
