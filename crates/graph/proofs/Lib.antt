pub mod Numbers
pub mod EdgeTables
pub mod FittingPorts
pub mod Inputs
