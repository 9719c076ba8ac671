pub mod Calls
pub mod Closing
pub mod Pasts
pub mod Rules
pub mod Seats
pub mod Work
