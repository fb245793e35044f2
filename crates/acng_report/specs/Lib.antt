pub mod Desks
pub mod Pages
pub mod Tables
