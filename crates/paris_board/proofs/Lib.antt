pub mod Fields
pub mod Growth
pub mod NameTests
pub mod Places
