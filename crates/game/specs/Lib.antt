pub mod Causes
pub mod Dealing
pub mod Odds
pub mod Opening
pub mod Rules
