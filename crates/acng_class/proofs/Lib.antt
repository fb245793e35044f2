pub mod Ascii
pub mod OnLiterals
mod Rows
pub mod Verdicts
