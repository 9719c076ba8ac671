pub mod Faults
pub mod Keys
pub mod NameFields
pub mod Names
pub mod Profiles
