pub mod Run
pub mod WholeList
