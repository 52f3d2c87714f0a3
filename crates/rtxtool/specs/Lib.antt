pub mod Status
pub mod CommandLine
pub mod Printing
pub mod Program
