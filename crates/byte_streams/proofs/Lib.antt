pub mod Cutting
pub mod KnownBytes
