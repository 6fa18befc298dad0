pub mod PackedLemmas
pub mod Kit
