-- What the contracts here cite.
pub mod Digits
pub mod Lines
