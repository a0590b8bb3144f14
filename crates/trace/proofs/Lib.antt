pub mod Appending
pub mod Stepping
pub mod Remaining
pub mod Whole
