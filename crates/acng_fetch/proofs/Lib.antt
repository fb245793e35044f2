pub mod Attempts
pub mod Bodies
pub mod BodyBound
pub mod Downloads
pub mod FieldBounds
pub mod LeadLemmas
pub mod May
pub mod Pieces
pub mod Plain
pub mod ReaderSteps
pub mod RoomLemmas
pub mod Steps
pub mod Tests
pub mod Told
pub mod Turns
pub mod Verdicts
mod Rows
