pub mod Cuts
pub mod Lacking
pub mod Numbers
pub mod Placed
mod Rows
pub mod Same
pub mod Texts
