pub mod Format
pub mod Items
pub mod Opcodes
pub mod Reading
pub mod Writing
