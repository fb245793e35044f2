pub mod Cases
pub mod Enough
pub mod Entered
pub mod Expires
pub mod Fetches
pub mod FileNotes
pub mod Generates
pub mod Nothing
pub mod Ran
pub mod Reading
mod Rows
pub mod Singles
pub mod Starts
pub mod Tasks
pub mod WordsForm
