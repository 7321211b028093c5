-- The definitions that the contracts cite.
pub mod Numbers
pub mod Value
pub mod Parts
pub mod Empty
