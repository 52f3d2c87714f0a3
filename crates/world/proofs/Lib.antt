pub mod Order
pub mod Faithful
pub mod Runs
pub mod Near
pub mod Kept
pub mod Right
pub mod Simulates
pub mod Headline
pub mod Strictly
pub mod SameSteps
pub mod Determined
mod Marked
mod Repeats
mod Learnt
mod Spelled
mod Spans
mod Among
mod Totals
mod Ready
mod Steps
mod Mends
mod Rounds
mod OnlyMends
mod RoundSteps
pub mod ScheduleSteps
mod Played
mod OneListing
mod SameWindows
mod SamePlaces
mod Asking
mod AskedRuns
mod SameWires
mod LeftOut
mod OneAsk
mod Refusals
mod Recent
mod Packed
mod PackedSteps
pub mod CountSteps
