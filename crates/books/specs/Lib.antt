pub mod Books
pub mod Rounds
