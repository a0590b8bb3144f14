mod Cards
mod Alike
mod Fronts
mod Parted
mod Lower
mod TwoWays
