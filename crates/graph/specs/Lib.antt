-- The definitions that the contracts cite.
pub mod Visit
pub mod Graph
pub mod Sets
pub mod Words
