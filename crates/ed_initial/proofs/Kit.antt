-- The names that the proofs of this crate cite, passed on from one place. Declares nothing.
pub use Rattle.std.proofs.lemmas.Grind.{common_steps}
pub use Rattle.std.proofs.Common.{not, rules}
pub use Rattle.std.proofs.lemmas.Bool.{false≢true, not-true}
pub use Rattle.ed_words.specs.declared.order_words.TheConstants.{A_F, E_F, T_F}
pub use Rattle.ed_words.specs.declared.size.Size.{Size}
pub use Rattle.ed_words.proofs.SizeLemmas.{locations_least}
pub use Rattle.ed_orders.specs.declared.kind.Kind.{Kind}
pub use Rattle.ed_machine.specs.Start.{start_state}
pub use Rattle.ed_machine.specs.declared.turn.Turn.TheVariants.{NoTape, Went}
pub use Rattle.ed_machine.proofs.Kit.Frames.{Moment}
pub use Rattle.ed_machine.proofs.Kit.Moves.{Moves}
unfoldable pub use Rattle.ed_machine.proofs.Kit.Window.{patched}
pub use Rattle.ed_machine.proofs.Names.{add-one, zero, ◌^◌, cases_lt, nat_tests, IsStore, Obeyed, State, state_after}
unfoldable pub use Rattle.ed_machine.proofs.Names.{step, progress}
pub use Rattle.ed_machine.proofs.Steps.{next_state, quiet_codes}
pub use Rattle.ed_notation.specs.Fold.{value_of}
pub use Rattle.ed_notation.specs.Openings.{opening}
pub use Rattle.ed_notation.specs.declared.kind.RowKind.{RowKind}
pub use Rattle.ed_notation.specs.declared.reader.PartialItem.{PartialItem}
pub use Rattle.ed_notation.specs.declared.reader.RowEffect.{RowEffect}
pub use Rattle.ed_notation.specs.declared.reader.RowEffect.TheVariants.{Ended, Entered, Longer, Placed, Refused}
pub use Rattle.ed_notation.proofs.Follow.{RowLaw-seen, Reader}
pub use Rattle.ed_notation.proofs.Kit.{[], ap, arith, Bool, drop, false, get_or, if◌then◌else◌, inl, inr, length, List}
pub use Rattle.ed_notation.proofs.Kit.{lit<, lit≤, nat_eq, nat_le, nat_lt, None, Option, refl, set, Some, subst, suc}
pub use Rattle.ed_notation.proofs.Kit.{sym, true, ℕ, ◌%◌, ◌&&◌, ◌*◌, ◌++◌, ◌+◌, ◌-◌, ◌/◌, ◌<◌, ◌∙◌, ◌∷◌, ◌≡◌, ◌≢◌, ◌≤◌}
pub use Rattle.ed_notation.proofs.Kit.{◌⊎◌, and_parts, ltb-true, locations, digit, TapeEntry, WellFormed, costs}
pub use Rattle.ed_notation.proofs.Kit.{end_cost, NotationState, over, Begun, digits_number, IsBegun, row_kind, rows_of}
pub use Rattle.ed_notation.proofs.Kit.{spelled_rows, IsDirective, Arrived, entry_by, part_of, placed_by, row_effect}
pub use Rattle.ed_notation.proofs.Kit.{set_by, setting_of}
unfoldable pub use Rattle.ed_notation.proofs.Kit.{reading_on}
pub use Rattle.ed_notation.proofs.Laws.{reading_is_rules}
pub use Rattle.ed_notation.proofs.Rows.{RowLaw}
pub use Rattle.ed_initial.specs.Entry.{at_entry, entry_words, IsStarted, ReachesEntry}
pub use Rattle.ed_initial.specs.Listing.{initial_orders}
pub use Rattle.ed_initial.specs.Load.{EndsAs, enters, Enters, event_by, GoesOn, is_E, is_quiet_turn, IsQuiet, load_end}
pub use Rattle.ed_initial.specs.Rests.{IsNotationState, IsPartSoFar, Scratch, scratch_of, working, Working}
pub use Rattle.ed_initial.specs.Walks.{Between, DoesRow, Inside, is_rest, walk_end, walk_orders, WalkEnds}
pub use Rattle.ed_initial.specs.declared.loading.Loaded.{Loaded}
pub use Rattle.ed_initial.specs.declared.loading.Loaded.TheVariants.{Lost}
pub use Rattle.ed_initial.specs.declared.resting.Rested.{Rested}
pub use Rattle.ed_initial.specs.declared.resting.Rested.TheVariants.{At}
