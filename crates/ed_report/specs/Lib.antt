pub mod Notes
pub mod Entries
pub mod Listings
pub mod FirstNotes
pub mod Catalogue
pub mod Traces
