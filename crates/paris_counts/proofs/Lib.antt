pub mod Digits
pub mod Rises
pub mod Sums
pub mod Tops
