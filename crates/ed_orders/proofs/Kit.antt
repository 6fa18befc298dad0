-- The names that the proofs of this crate cite, passed on from one place. Declares nothing.
pub use Rattle.std.proofs.Common.{[], ap, arith, Bool, false, length, nat_lt, None, Option, refl, slice_index, Some}
pub use Rattle.std.proofs.Common.{sym, true, ℕ, ◌+◌, ◌<◌, ◌∙◌, ◌∷◌, ◌≡◌, ◌≤◌}
pub use Rattle.std.specs.Int.{trailing_zeros, w32}
pub use Rattle.std.proofs.lemmas.Bool.{ltb-true}
pub use Rattle.std.proofs.lemmas.List.{get_or_past}
pub use Rattle.ed_codes.specs.Spelling.{letters}
pub use Rattle.ed_codes.proofs.Below.{from_below}
pub use Rattle.ed_orders.specs.Kinds.{kind_of_function, kinds}
unfoldable pub use Rattle.ed_orders.specs.Places.{places}
pub use Rattle.ed_orders.specs.declared.kind.Kind.{Kind}
pub use Rattle.ed_orders.specs.declared.kind.Kind.TheVariants.{L, R}
