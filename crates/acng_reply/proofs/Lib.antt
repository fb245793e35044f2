pub mod Brokens
pub mod Fronts
pub mod Joining
pub mod Parting
pub mod Parts
mod Rows
pub mod Sending
pub mod Texts
