pub mod Commanding
pub mod OpenedTexts
pub mod Answered
