pub mod Tests
pub mod ByteLaws
pub mod KeyLaws
