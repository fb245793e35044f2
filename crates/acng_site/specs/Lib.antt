pub mod Dials
pub mod Honest
pub mod Places
pub mod Requests
pub mod Rules
