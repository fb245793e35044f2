mod HonestRows
mod HonestWitness
mod Joins
mod NextBytes
mod PlaceRows
mod Resolves
