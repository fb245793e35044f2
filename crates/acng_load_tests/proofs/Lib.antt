-- Lemmas of the tests.
pub mod Empty
pub mod Unused
