pub mod ControlLaws
pub mod KindLaws
