pub mod Resolves
pub mod SamePlans
pub mod SameActions
pub mod ReflexivePlans
