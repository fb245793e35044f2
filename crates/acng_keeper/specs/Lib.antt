pub mod Codes
pub mod Handles
pub mod Images
pub mod Kept
pub mod Lists
pub mod Names
pub mod Slips
pub mod Stops
