pub mod Before
pub mod Walk
pub mod PassedOver
pub mod ReachesWithout
pub mod Unrank
pub mod Rank
