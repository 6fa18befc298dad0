pub mod Traces
pub mod Parts
