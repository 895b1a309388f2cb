pub mod FillLaws
pub mod SliceLaws
pub mod EmptyLaws
pub mod StrayLaws
pub mod WordsLaws
pub mod Constants
