pub mod Alu
pub mod Bits
pub mod Laws
