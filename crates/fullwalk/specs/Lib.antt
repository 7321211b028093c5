-- The definitions that the theorems speak of.
pub mod Ends
pub mod FullWalk
