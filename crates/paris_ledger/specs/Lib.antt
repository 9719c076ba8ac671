pub mod Ledgers
pub mod Refusals
