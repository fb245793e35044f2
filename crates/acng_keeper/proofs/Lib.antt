pub mod Below
pub mod Entered
pub mod Listed
mod Rows
pub mod Spelled
pub mod Unsealed
