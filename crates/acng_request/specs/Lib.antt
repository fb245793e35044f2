pub mod Blocks
pub mod Gots
pub mod Nexts
pub mod ReplyHeads
pub mod RequestFields
pub mod RequestHeads
pub mod Spans
