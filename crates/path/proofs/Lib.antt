pub mod PathLaws
pub mod DecodePathLaws
