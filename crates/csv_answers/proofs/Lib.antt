pub mod Written
pub mod Decoded
pub mod Cut
pub mod Refused
