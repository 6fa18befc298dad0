pub mod CallSources
pub mod DemoSources
pub mod Costs
pub mod CallRuns
pub mod DemoRuns
