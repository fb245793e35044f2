pub mod Entries
pub mod Frames
mod Rows
pub mod Takers
