pub mod Fronts
pub mod Steps
pub mod Folding
pub mod ColumnMarks
pub mod Moved
pub mod Rewriting
pub mod AddedNames
pub mod KeptLets
