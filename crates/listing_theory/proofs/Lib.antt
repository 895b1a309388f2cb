pub mod DecimalLaws
pub mod LineLaws
pub mod ListingLaws
pub mod Examples
