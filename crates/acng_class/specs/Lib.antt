pub mod Classes
pub mod Patterns
