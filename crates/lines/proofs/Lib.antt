mod Joined
mod TooLong
mod Written
