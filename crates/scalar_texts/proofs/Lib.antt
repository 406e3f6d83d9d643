pub mod OneText
pub mod OneNumber
mod Joined
mod Spelled
mod LastDigits
