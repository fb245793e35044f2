pub mod Heads
pub mod Joined
pub mod Lines
pub mod Manners
pub mod Parted
pub mod Picks
pub mod Replies
