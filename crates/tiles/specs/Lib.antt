-- The definitions that the theorems speak of.
pub mod Lists
pub mod Tiles
