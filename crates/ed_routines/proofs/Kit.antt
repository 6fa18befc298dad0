-- The names that the proofs of this crate cite, passed on from one place. Declares nothing.
pub use Rattle.std.proofs.Common.{◌==◌}
pub use Rattle.std.specs.List.{list_any}
pub use Rattle.ed_words.specs.declared.order_words.TheConstants.{A_F, E_F, L_D, S_F, T_F, U_F}
pub use Rattle.ed_store.specs.Cells.{short_at}
pub use Rattle.ed_orders.specs.declared.kind.Kind.{Kind}
pub use Rattle.ed_machine.proofs.Kit.Frames.{all_words, Frame, Moment, short, state}
pub use Rattle.ed_machine.proofs.Kit.Leads.{AreObeyed-leads, Leads}
pub use Rattle.ed_machine.proofs.Kit.Moves.{A, E_jumps, G_jumps, Jumps, L, Reads, S, T, U}
pub use Rattle.ed_machine.proofs.Kit.Orders.{Does, IsOrder}
pub use Rattle.ed_machine.proofs.Kit.Paths.{Leads-path, on, Path, prints, stay}
pub use Rattle.ed_machine.proofs.Kit.Places.{any, early, out, own}
pub use Rattle.ed_machine.proofs.Kit.Shifts.{LD}
pub use Rattle.ed_machine.proofs.Kit.Standing.{Holds}
pub use Rattle.ed_machine.proofs.Kit.Window.{length_patched}
unfoldable pub use Rattle.ed_machine.proofs.Kit.Window.{patched}
pub use Rattle.ed_machine.proofs.Kit.Zeros.{begun, flag_of, spared}
pub use Rattle.ed_machine.proofs.Names.{[], ap, arith, Bool, drop, false, get_or, inl, inr, length, List, lit<, nat_lt}
pub use Rattle.ed_machine.proofs.Names.{Option, refl, rules, set, Some, subst, suc, sym, true, zero, ℕ, ◌%◌, ◌*◌, ◌++◌}
pub use Rattle.ed_machine.proofs.Names.{◌+◌, ◌-◌, ◌/◌, ◌<◌, ◌^◌, ◌∙◌, ◌∷◌, ◌≡◌, ◌≤◌, ◌⊎◌, locations, locations_most}
pub use Rattle.ed_machine.proofs.Names.{State, state_after}
unfoldable pub use Rattle.ed_machine.proofs.Names.{step}
pub use Rattle.ed_run.specs.Run.{IsRun}
pub use Rattle.ed_notation.proofs.Kit.{if◌then◌else◌, lit≤, le-ltb, lt-ltb}
pub use Rattle.ed_library.specs.Routines.{place_count}
pub use Rattle.ed_routines.specs.Catalogue.{newline, print, read, with_h}
pub use Rattle.ed_routines.specs.Digits.{after_digits, digit_rows, digits, digits_value, print_orders, sum}
pub use Rattle.ed_routines.specs.Digits.{value_after, without_zeros}
pub use Rattle.ed_routines.specs.Returns.{IsOther, Keeps, Returned}
pub use Rattle.ed_routines.specs.Standing.{caller, HasWord, IsLoadedAt, IsOutside}
