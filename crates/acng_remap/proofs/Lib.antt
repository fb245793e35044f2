pub mod Deciding
pub mod Fits
pub mod Following
pub mod Fronts
pub mod Longest
pub mod Names
pub mod OnLiterals
pub mod Origins
mod Rows
pub mod Serving
