-- The theorems.
pub mod ListLaws
pub mod TileLaws
