pub mod Calls
pub mod Codes
pub mod Goods
pub mod Paths
pub mod Removals
pub mod Rows
pub mod Starts
