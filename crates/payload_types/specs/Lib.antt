pub mod Fault
pub mod Folding
pub mod Types
