pub mod Enough
pub mod Going
pub mod Progress
pub mod Stopping
