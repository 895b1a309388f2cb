pub mod CountsLaws
pub mod FilledLaws
