pub mod Asked
pub mod Views
pub mod Transcribed
pub mod Commands
pub mod Disk
