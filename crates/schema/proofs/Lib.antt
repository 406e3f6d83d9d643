pub mod Written
pub mod Right
pub mod RightRuns
pub mod InUse
pub mod TextLines
pub mod ProperLines
pub mod ReadOn
