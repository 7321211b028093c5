-- The definitions that the theorems speak of.
pub mod Opened
pub mod Choices
pub mod Ranges
pub mod Demand
