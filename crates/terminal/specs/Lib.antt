pub mod Pages
pub mod Printed
pub mod Promised
pub mod SheetLines
