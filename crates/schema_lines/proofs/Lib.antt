pub mod Each
pub mod Spelled
pub mod CellBytes
pub mod ColumnLines
pub mod SaidLines
pub mod Places
pub mod LineBytes
