pub mod Fill
pub mod Internal
