pub mod Shown
pub mod Dialects
pub mod Epochs
pub mod Asked
pub mod Text
pub mod Limits
pub mod Signs
pub mod Widths
