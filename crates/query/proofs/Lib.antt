pub mod CallLaws
pub mod PathLaws
pub mod PassedLaws
pub mod StepLaws
pub mod AsideLaws
