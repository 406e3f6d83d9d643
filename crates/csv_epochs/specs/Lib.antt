pub mod Places
pub mod Cells
pub mod Rows
pub mod Epochs
pub mod Opened
pub mod Taken
