pub mod Beginning
pub mod FirstLine
pub mod Ends
pub mod Objects
pub mod Sealing
