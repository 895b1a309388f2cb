pub mod Records
pub mod PlanOf
pub mod Taken
pub mod Accepted
pub mod Calls
