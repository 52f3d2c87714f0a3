pub mod Fault
pub mod Search
pub mod Inbound
pub mod Controls
pub mod Own
pub mod Keyed
pub mod Outbound
pub mod Heard
