mod Escapes
mod Helds
mod Literals
