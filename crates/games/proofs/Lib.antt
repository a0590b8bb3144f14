mod Deals
pub mod OneGame
