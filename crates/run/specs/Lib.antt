pub mod Meaning
pub mod Runs
pub mod Steps
pub mod StopRule
