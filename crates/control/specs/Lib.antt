-- The definitions that the contracts cite.
pub mod Control
pub mod Pointers
