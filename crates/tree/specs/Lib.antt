-- The definitions that the contracts cite.
pub mod Record
pub mod Lookup
pub mod Marker
