pub mod Back
pub mod Behind
pub mod Pairs
pub mod Plain
