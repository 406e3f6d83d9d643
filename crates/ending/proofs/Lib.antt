pub mod Heights
pub mod WorkLeft
pub mod Ends
pub mod Idle
pub mod IdlePrograms
