pub mod Agreement
pub mod Combining
pub mod Counts
pub mod Direct
pub mod DirectRuns
pub mod Meanings
mod MovingRows
mod Rows
pub mod Segments
pub mod Stores
pub mod Unstored
pub mod Widths
pub mod Worlds
