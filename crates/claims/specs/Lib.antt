-- The statements.
pub mod Cases
pub mod Promised
pub mod Statuses
