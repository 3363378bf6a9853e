pub mod ReasonTexts
pub mod FactTexts
pub mod NamingTexts
