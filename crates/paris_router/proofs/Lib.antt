pub mod Least
pub mod Posted
pub mod Sent
pub mod Senders
pub mod Fetched
