pub mod Stakes
pub mod Judged
pub mod Five
pub mod Postable
