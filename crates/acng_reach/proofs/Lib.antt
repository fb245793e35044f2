mod Rows
pub mod Sets
pub mod Bases
pub mod Desks
pub mod Orders
pub mod Pieces
pub mod Fronts
pub mod Tests
