-- The definitions that the contracts cite.
pub mod Kinds
pub mod Shape
pub mod Turns
