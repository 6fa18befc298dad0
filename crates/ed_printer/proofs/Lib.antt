pub mod Tables
pub mod Latest
pub mod Silent
pub mod Texts
