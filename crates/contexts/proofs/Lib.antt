pub mod Opens
pub mod ControlOpens
pub mod Remembered
pub mod Owned
pub mod Hearing
