pub mod Stretches
pub mod Tallies
