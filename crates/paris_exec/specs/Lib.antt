pub mod Combined
pub mod Frames
pub mod Made
pub mod Planes
pub mod Tasks
