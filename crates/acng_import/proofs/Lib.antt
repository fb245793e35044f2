pub mod Readings
pub mod Looked
pub mod Entering
pub mod Filed
pub mod Running
pub mod Stepping
pub mod Lines
pub mod Faults
