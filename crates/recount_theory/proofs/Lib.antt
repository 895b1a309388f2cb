pub mod Refusals
pub mod Meaning
pub mod InWords
