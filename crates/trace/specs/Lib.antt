pub mod Lines
pub mod Traces
pub mod Begun
pub mod Traced
