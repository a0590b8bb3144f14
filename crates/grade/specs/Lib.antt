pub mod Answers
pub mod Faults
pub mod Inputs
pub mod Lines
pub mod Streams
pub mod States
pub mod Words
