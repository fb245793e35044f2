mod AnswerRows
pub mod BlockLines
pub mod Buffered
pub mod Cutting
pub mod Digits
mod Endings
mod FieldLemmas
pub mod Folders
pub mod HeadLemmas
mod LineScans
pub mod Ranges
pub mod Readings
mod Rows
pub mod Scans
pub mod Searches
mod Segments
pub mod Trims
pub mod WordSteps
pub mod Writes
