mod Answered
mod HandStates
mod LineStates
mod Parts
mod Steps
