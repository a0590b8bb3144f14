pub mod Entries
pub mod Lines
pub mod Notes
pub mod Rolls
pub mod Sums
