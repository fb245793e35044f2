-- Lemmas of the tests.
pub mod Empty
