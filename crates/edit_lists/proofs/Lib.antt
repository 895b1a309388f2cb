pub mod RunLaws
pub mod WholeLists
pub mod Examples
