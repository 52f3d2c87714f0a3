pub mod Reports
pub mod Living
pub mod Pending
pub mod Sent
