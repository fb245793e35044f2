pub mod Bodies
pub mod Caches
pub mod Desks
pub mod Found
pub mod Names
pub mod Paths
pub mod Reaches
pub mod Sets
