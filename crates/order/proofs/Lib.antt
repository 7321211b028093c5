-- The laws that the promises cite.
pub mod OrderLaws
