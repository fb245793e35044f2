pub mod Following
pub mod Frames
pub mod Fronts
pub mod Growth
pub mod Kept
pub mod Looked
pub mod Pieces
pub mod Steps
pub mod Turned
mod Rows
