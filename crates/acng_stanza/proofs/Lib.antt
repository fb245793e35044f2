pub mod Pieces
pub mod Places
mod Rows
