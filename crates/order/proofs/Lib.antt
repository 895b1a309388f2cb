pub mod StackLaws
pub mod OrderLaws
