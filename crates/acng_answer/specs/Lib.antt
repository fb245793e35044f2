pub mod Blocks
pub mod Reader
pub mod Sizes
pub mod Stages
