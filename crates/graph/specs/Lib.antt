pub mod Graph
pub mod Count
pub mod Recurrence
pub mod Order
pub mod Ascending
pub mod Update
pub mod Uses
