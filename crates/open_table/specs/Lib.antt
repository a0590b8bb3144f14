pub mod Begins
pub mod Firsts
pub mod Sums
pub mod Tables
