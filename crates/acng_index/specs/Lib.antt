pub mod Cuts
pub mod Drives
pub mod Frames
pub mod Gives
pub mod Makes
pub mod Packages
pub mod Releases
pub mod Texts
