-- The names that the proofs of this crate cite, passed on from one place. Declares nothing.
pub use Rattle.std.proofs.Common.{nat_le, ◌≢◌, rules}
pub use Rattle.std.proofs.lemmas.Bool.Decides.{nat_tests}
pub use Rattle.std.proofs.lemmas.List.{get_or-set_other, get_or-set_same, length-set}
pub use Rattle.ed_words.specs.declared.order_words.TheConstants.{A_F, E_F, G_F, R_D, S_F, T_F}
pub use Rattle.ed_machine.proofs.Kit.Moves.{G_stays, R, T_top}
pub use Rattle.ed_machine.proofs.Kit.Paths.{followed}
pub use Rattle.ed_machine.proofs.Kit.Shifts.{RD}
pub use Rattle.ed_machine.proofs.Kit.Window.{get_above, get_below}
pub use Rattle.ed_routines.proofs.Called.{Beside-outside, Call, call_of, Holds-loaded, image, IsWithin, get_or-kept}
pub use Rattle.ed_routines.proofs.Called.{moment, within_size}
pub use Rattle.ed_routines.proofs.Image.{Makes, more, none}
pub use Rattle.ed_routines.proofs.Kit.{[], ap, arith, Bool, false, get_or, inl, inr, length, List, lit<, refl, set}
pub use Rattle.ed_routines.proofs.Kit.{subst, suc, sym, true, zero, ℕ, ◌%◌, ◌*◌, ◌+◌, ◌-◌, ◌/◌, ◌<◌, ◌^◌, ◌∙◌, ◌∷◌, ◌≡◌}
pub use Rattle.ed_routines.proofs.Kit.{◌≤◌, locations, locations_most, short_at, State, state_after, Frame, Moment}
pub use Rattle.ed_routines.proofs.Kit.{short, state, AreObeyed-leads, Leads, A, E_jumps, G_jumps, S, T, Leads-path, on}
pub use Rattle.ed_routines.proofs.Kit.{Path, stay, any, early, out, own, Holds, length_patched, IsOther, caller}
pub use Rattle.ed_routines.proofs.Kit.{IsLoadedAt, IsOutside}
unfoldable pub use Rattle.ed_routines.proofs.Kit.{patched}
pub use Rattle.ed_maths.specs.Quotients.{divide_orders, dividend}
unfoldable pub use Rattle.ed_maths.specs.Quotients.{ones}
pub use Rattle.ed_maths.specs.Roots.{IsRoot, root_orders}
