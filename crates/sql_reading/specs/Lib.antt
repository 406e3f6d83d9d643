pub mod Said
pub mod Readable
