mod DemoTexts
pub mod FilledLines
pub mod TextLines
pub mod CallTexts
pub mod Decimals
pub mod Said
pub mod SaidMaths
pub mod SaidDemo
pub mod DemoNames
pub mod DemoFaultless
pub mod CallsAccepted
pub mod DemoAccepted
pub mod Stops
pub mod Kit
mod Calling
mod CalledRoutines
pub mod AtEntry
pub mod Entries
pub mod Blocks
mod DemoLoop
mod DemoPlaced
mod WordCosts
pub mod DemoCost
pub mod DemoMost
pub mod DemoEnds
mod CalledMaths
mod Along
pub mod PrintAndNewline
pub mod CheckedPrint
pub mod PrintOrders
pub mod CheckedPaper
pub mod ReadAndPrint
pub mod DivideAndPrint
pub mod RootAndPrint
mod CallCosts
pub mod MostOrders
pub mod Papers
pub mod Stopped
pub mod CallRuns
pub mod DemoRuns
