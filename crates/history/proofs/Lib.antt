pub mod Growing
pub mod Room
