-- The names that the proofs of this crate cite, passed on from one place. Declares nothing.
pub use Rattle.std.proofs.Common.{ap, arith, get_or, nat_eq, sym, ◌%◌, ◌*◌, ◌/◌, ◌^◌, ◌∙◌}
pub use Rattle.ed_store.specs.Cells.{Cells, long_at, sandwich_at, short_at}
pub use Rattle.ed_store.specs.Packed.{unpacked_cells}
