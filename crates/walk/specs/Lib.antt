-- The definitions that the contracts cite.
pub mod Walks
pub mod Starts
pub mod Calls
pub mod Rows
