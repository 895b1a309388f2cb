pub mod RecountLaws
pub mod ValidateLaws
