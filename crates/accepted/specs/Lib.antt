-- The definitions that the theorems speak of.
pub mod Accepted
pub mod Visited
pub mod Values
