pub mod Codes
pub mod Feeds
pub mod Places
pub mod Readers
pub mod Stanzas
pub mod Steps
