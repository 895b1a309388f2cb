pub mod Edit
pub mod Book
pub mod Table
pub mod Outcome
pub mod Model
pub mod Change
