pub mod FlatRows
pub mod Indexes
pub mod Counts
pub mod Matches
