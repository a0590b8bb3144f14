pub mod Rules
pub mod Opening
pub mod Checked
pub mod Facts
