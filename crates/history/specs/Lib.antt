pub mod Turns
pub mod Single
pub mod Histories
pub mod Positions
