-- The definitions that the contracts cite.
pub mod Names
pub mod Metadata
