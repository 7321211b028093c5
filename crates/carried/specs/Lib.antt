-- The definitions that the theorems speak of.
pub mod Carried
