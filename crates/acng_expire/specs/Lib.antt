pub mod Doomed
pub mod Expirations
pub mod Laws
pub mod Lines
pub mod Places
pub mod Rounds
pub mod Runs
