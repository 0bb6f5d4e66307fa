pub mod PlanOfList
pub mod Judged
