pub mod Results
pub mod Writing
pub mod Files
pub mod Streamed
