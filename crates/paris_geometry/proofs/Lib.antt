pub mod Addresses
pub mod Neighbours
pub mod Products
pub mod Strides
pub mod Powers
