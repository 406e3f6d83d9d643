pub mod Orders
pub mod Forks
pub mod Options
pub mod Contents
pub mod Earlier
pub mod Places
