-- The names that the proofs of this crate cite, passed on from one place. Declares nothing.
pub use Rattle.std.proofs.Common.{nat_le, ◌≢◌}
pub use Rattle.std.proofs.lemmas.Bool.{cases_eq}
pub use Rattle.ed_words.specs.declared.order_words.TheConstants.{A_F, L_F}
pub use Rattle.ed_store.specs.Cells.{long_at}
pub use Rattle.ed_orders.specs.Kinds.{kinds}
pub use Rattle.ed_orders.specs.declared.kind.Kind.{Kind}
pub use Rattle.ed_orders.specs.declared.kind.Kind.TheVariants.{A, C, E, F, G, H, I, L, N, O, R, S, T, U, V, X, Y, Z}
pub use Rattle.ed_machine.specs.declared.turn.Turn.{Turn}
pub use Rattle.ed_machine.specs.declared.turn.Turn.TheVariants.{Stopped}
pub use Rattle.ed_machine.proofs.Kit.Paths.{followed}
pub use Rattle.ed_machine.proofs.Kit.Places.{pair}
pub use Rattle.ed_machine.proofs.Kit.Sums.{sum-parts}
pub use Rattle.ed_machine.proofs.Kit.Window.{get_own}
pub use Rattle.ed_machine.proofs.Names.{[], ap, arith, Bool, false, get_or, inl, inr, length, List, lit<, nat_eq}
pub use Rattle.ed_machine.proofs.Names.{nat_lt, None, Option, refl, rules, Some, subst, suc, sym, true, true≢false}
pub use Rattle.ed_machine.proofs.Names.{zero, ℕ, ◌%◌, ◌&&◌, ◌*◌, ◌++◌, ◌+◌, ◌-◌, ◌/◌, ◌<◌, ◌^◌, ◌∙◌, ◌∷◌, ◌≡◌, ◌≤◌, ◌⊎◌}
pub use Rattle.ed_machine.proofs.Names.{and_parts, cases_lt, nat_tests, locations, within, address_of, function_of}
pub use Rattle.ed_machine.proofs.Names.{locations_most, IsStore, kind_of_function, after, done_at, jump_order}
pub use Rattle.ed_machine.proofs.Names.{next_word, obey_word, Obeyed, place_of, row_order, State, codes_of, is_obeyed}
pub use Rattle.ed_machine.proofs.Names.{Progress, state_after, stops_of}
unfoldable pub use Rattle.ed_machine.proofs.Names.{step, progress}
pub use Rattle.ed_routines.proofs.Kit.{if◌then◌else◌, lit≤, short_at, Frame, Moment, state, Path}
pub use Rattle.ed_checker.specs.Checker.{Agree, CheckerStands, guest, IsAllowed, IsAllowedOrder, IsOutsideChecker}
pub use Rattle.ed_checker.specs.Checker.{orders_by, turn_orders}
unfoldable pub use Rattle.ed_checker.specs.Checker.{checked_orders}
pub use Rattle.ed_checker.specs.Contract.{ChecksOne}
pub use Rattle.ed_checker.specs.Laws.{HasRun}
