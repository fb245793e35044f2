pub mod Decisions
pub mod Forms
pub mod Hosts
pub mod Origins
pub mod Readings
