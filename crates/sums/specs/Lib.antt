pub mod Sum
pub mod Modulo
pub mod Gather
