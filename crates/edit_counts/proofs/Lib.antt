pub mod EdgesLaws
pub mod FactorLaws
pub mod EditedCounts
