pub mod KeyLists
pub mod PlanEq
pub mod PlanFields
pub mod Resolve
