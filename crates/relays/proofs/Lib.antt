mod Claiming
pub mod Going
pub mod Keeping
pub mod Stamps
pub mod Reading
pub mod Taking
pub mod Waking
pub mod Marked
pub mod Holes
pub mod Within
pub mod Reporting
pub mod Telling
pub mod Following
pub mod Slow
