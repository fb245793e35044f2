pub mod Answerings
pub mod Exact
pub mod Expiring
pub mod FileNotes
pub mod Filing
pub mod Frees
pub mod Headlines
pub mod Helds
pub mod Lawfuls
mod Rows
pub mod Rules
pub mod Sendings
pub mod Stills
pub mod Turnings
pub mod Visiting
