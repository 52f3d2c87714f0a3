pub mod Adding
pub mod Tallied
pub mod SendTallied
pub mod Believed
pub mod Accounts
mod Silences
mod WaitedFor
mod SeenTold
mod Typed
pub mod Passes
pub mod Cells
pub mod InTime
pub mod TimelyKept
pub mod TimelyRun
pub mod Always
pub mod Remembered
pub mod AskingRun
pub mod KindsTallied
pub mod KindsTold
pub mod PaddingTold
pub mod RepairsFound
pub mod PairCounts
pub mod LastPair
pub mod Fallen
