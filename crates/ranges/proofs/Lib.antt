-- The theorems.
pub mod OpenedLaws
pub mod ChoiceLaws
pub mod SharedLaws
pub mod KindLaws
pub mod SubtreeLaws
pub mod RangeLaws
pub mod DemandLaws
