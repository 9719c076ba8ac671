pub mod FlagSets
pub mod Steps
