mod Bounds
mod Comments
mod Escapes
mod Globs
mod LineSteps
mod Names
mod Owners
pub mod Patterns
mod Plain
mod Rows
mod Schemes
mod Walks
