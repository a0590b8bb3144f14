pub mod AllCalls
pub mod Cutting
pub mod Going
pub mod Parts
pub mod Sheets
