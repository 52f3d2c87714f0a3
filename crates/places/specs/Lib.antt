pub mod Place
pub mod Among
pub mod Fault
