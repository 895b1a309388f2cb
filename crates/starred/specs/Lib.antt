pub mod SheetOf
pub mod Starred
pub mod Calls
pub mod EveryCall
