pub mod Outcomes
pub mod Rows
pub mod Signs
pub mod Turned
pub mod Wholes
