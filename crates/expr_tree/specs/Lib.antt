pub mod Trees
pub mod Views
pub mod Plain
pub mod PlainLists
pub mod Parts
