pub mod LinesRead
pub mod Words
pub mod OneReading
