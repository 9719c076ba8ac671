pub mod Board
pub mod BoardFields
