pub mod Others
pub mod Ready
