pub mod Beside
pub mod Flags
pub mod Lengths
pub mod Post
pub mod Segments
pub mod Values
