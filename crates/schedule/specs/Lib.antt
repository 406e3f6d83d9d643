pub mod Commands
pub mod LineReader
pub mod ScheduleText
