-- What languages and descriptions are, of metadata that was decoded.
pub mod EntryLaws
