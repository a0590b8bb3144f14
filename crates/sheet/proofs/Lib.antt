pub mod Items
mod LeastCause
mod ReadWritten
mod Numbers
mod Parts
mod Places
mod Widths
mod Writable
mod WrittenRead
