mod Fields
mod Admitted
mod Alone
pub mod Different
mod Each
mod Finite
mod FiveChecked
pub mod InOrder
pub mod Laws
mod LeastCause
pub mod Refused
mod Shuffles
mod ThreeChecked
