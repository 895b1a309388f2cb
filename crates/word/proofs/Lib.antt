-- The laws of the definitions of specs/, and computed examples. Assumes nothing.
pub mod BitLaws
pub mod MaskLaws
pub mod CountLaws
pub mod WrapLaws
pub mod VisitLaws
pub mod Examples
