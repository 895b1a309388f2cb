pub mod ApplyLaws
pub mod WriteLaws
pub mod CallLaws
