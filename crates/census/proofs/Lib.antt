mod Counted
mod Tallied
