pub mod SearchLaws
pub mod CheckLaws
pub mod EditedRows
pub mod EditLaws
