pub mod Kit
mod CallsByDefault
mod MoveEndings
mod Stepped
mod CutRuns
mod InParts
mod TapeWalks
mod TapeEntries
mod FaultyTapes
mod PunchedBytes
mod PunchedTexts
mod CountedRuns
mod TapeFacts
mod TwoRuns
mod PartsLimits
mod MoreResumes
mod LetterTests
mod TraceAccounts
mod BlockedGuests
mod OwnRules
mod SmallerStore
mod Relocation
mod PartsRun
mod ReadBack
mod PrintedLines
mod Limits
mod BothSizes
pub mod FirstEntries
mod FirstFaults
mod Listed
mod PunchedTapes
pub mod Theorems
