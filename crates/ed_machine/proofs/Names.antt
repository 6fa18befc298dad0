-- The names that the proofs of this crate cite, passed on from one place. Declares nothing.
pub use Rattle.std.proofs.lemmas.Grind.{common_steps}
pub use Rattle.std.proofs.Common.{add-one, append-nil, append_assoc, drop, inl, inr, length-append, List, lit<}
pub use Rattle.std.proofs.Common.{pos, rules, set, subst, suc, take, true≢false, unwrap_or, zero, ◌&&◌, ◌++◌, ◌-◌, ◌⊎◌}
pub use Rattle.std.proofs.lemmas.Bool.{and_parts, cases_lt, eqb-true}
pub use Rattle.std.proofs.lemmas.Bool.Decides.{nat_tests}
pub use Rattle.std.proofs.lemmas.List.{length-set}
pub use Rattle.ed_words.specs.Sizes.{locations, within}
pub use Rattle.ed_words.specs.Words.{address_of, digit, function_of, is_long, long_of_halves}
pub use Rattle.ed_words.specs.declared.size.Size.{Size}
pub use Rattle.ed_words.proofs.SizeLemmas.{locations_most}
unfoldable pub use Rattle.ed_acc.specs.Arithmetic.{common, left71, minus71, minus_product, plus71, plus_common}
unfoldable pub use Rattle.ed_acc.specs.Arithmetic.{plus_product, right71}
pub use Rattle.ed_store.specs.Cells.{IsStore}
pub use Rattle.ed_store.proofs.Kit.{get_or, nat_eq, ◌%◌, ◌*◌, ◌/◌, ◌^◌, Cells}
pub use Rattle.ed_orders.specs.declared.kind.Kind.{Kind}
pub use Rattle.ed_orders.specs.declared.kind.Kind.TheVariants.{E, F, G, I, L, O, R, T, U, X, Y, Z}
pub use Rattle.ed_orders.proofs.Kit.{[], ap, arith, Bool, false, length, nat_lt, None, Option, refl, Some, sym, true, ℕ}
pub use Rattle.ed_orders.proofs.Kit.{◌+◌, ◌<◌, ◌∙◌, ◌∷◌, ◌≡◌, ◌≤◌, ltb-true, kind_of_function}
pub use Rattle.ed_machine.specs.OrderTable.{after, done_at, jump_order, next_word, obey, obey_word, Obeyed, place_of}
pub use Rattle.ed_machine.specs.OrderTable.{read_at, row_order, written_cells, written_store}
unfoldable pub use Rattle.ed_machine.specs.OrderTable.{step}
pub use Rattle.ed_machine.specs.State.{State}
pub use Rattle.ed_machine.specs.Steps.{AreObeyed, codes_of, is_obeyed, Progress, state_after, stops_of}
unfoldable pub use Rattle.ed_machine.specs.Steps.{progress}
pub use Rattle.ed_machine.specs.declared.turn.Turn.{Turn}
pub use Rattle.ed_machine.specs.declared.turn.Turn.TheVariants.{Printed, Stopped, Went}
