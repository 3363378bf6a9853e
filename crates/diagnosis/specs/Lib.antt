pub mod Blame
pub mod AfterForm
