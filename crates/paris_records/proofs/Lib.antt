pub mod Counting
pub mod Sameness
pub mod Sums
