pub mod Written
pub mod Read
pub mod Done
pub mod Streamed
