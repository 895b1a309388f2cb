pub mod SumLaws
pub mod ModuloLaws
pub mod GatherLaws
