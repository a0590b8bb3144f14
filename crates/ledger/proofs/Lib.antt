mod Totals
pub mod Writing
