pub mod Entering
pub mod Looks
