pub mod Layout
pub mod Lent
pub mod Conditions
pub mod Valid
pub mod Calls
pub mod Internal
