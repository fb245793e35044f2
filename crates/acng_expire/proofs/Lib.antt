pub mod Bodies
pub mod Changes
pub mod Ends
pub mod Lines
pub mod Marks
pub mod Orders
pub mod Rounds
pub mod Sweeps
pub mod Told
mod Rows
