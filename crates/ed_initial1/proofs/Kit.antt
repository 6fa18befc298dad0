-- The names that the proofs of this crate cite, passed on from one place. Declares nothing.
pub use Rattle.std.proofs.Common.{drop-cons, rules}
pub use Rattle.std.proofs.lemmas.Bool.{eq-eqb, ne_eqb}
pub use Rattle.ed_words.specs.declared.order_words.TheConstants.{T_F}
pub use Rattle.ed_words.specs.declared.size.Size.TheVariants.{Full}
pub use Rattle.ed_store.specs.Cells.{with_short}
pub use Rattle.ed_machine.specs.declared.turn.Turn.TheVariants.{Went}
pub use Rattle.ed_machine.proofs.Kit.Frames.{short}
pub use Rattle.ed_machine.proofs.Kit.Moves.{T_top}
pub use Rattle.ed_machine.proofs.Kit.Paths.{Leads-path}
pub use Rattle.ed_machine.proofs.Kit.Places.{own}
pub use Rattle.ed_machine.proofs.Kit.Window.{patched_one}
pub use Rattle.ed_machine.proofs.Names.{append-nil, append_assoc, length-append, eqb-true}
pub use Rattle.ed_notation.specs.Items.{AreDigits}
pub use Rattle.ed_notation.proofs.Follow.{number_le}
pub use Rattle.ed_notation.proofs.Rows.{digits_more, number_more}
pub use Rattle.ed_initial.proofs.Kit.{[], ap, arith, Bool, drop, false, get_or, if◌then◌else◌, inl, inr, length, List}
pub use Rattle.ed_initial.proofs.Kit.{lit<, lit≤, nat_eq, nat_lt, None, Option, refl, set, Some, subst, suc, sym, true}
pub use Rattle.ed_initial.proofs.Kit.{ℕ, ◌%◌, ◌*◌, ◌++◌, ◌+◌, ◌/◌, ◌<◌, ◌^◌, ◌∙◌, ◌∷◌, ◌≡◌, ◌≤◌, and_parts, digit}
pub use Rattle.ed_initial.proofs.Kit.{Obeyed, State, state_after, Moment, digits_number}
unfoldable pub use Rattle.ed_initial.proofs.Kit.{step, progress, patched}
pub use Rattle.ed_initial1.specs.Entry.{at_entry1, IsStarted1}
pub use Rattle.ed_initial1.specs.Faults.{BeginsWith, breaks1, Breaks1, is_broken1, is_first, is_none, IsFault1}
pub use Rattle.ed_initial1.specs.Faults.{IsLoading, IsPart1, part_rows1, ReachesEntry1, Tape, WellFormed1}
pub use Rattle.ed_initial1.specs.Items.{AreItems, Begun1, begun_rows1, costs1, ending_row, IsBegun1, IsFirst, Item1}
pub use Rattle.ed_initial1.specs.Items.{item_number, last_of, rows_of1, spelled_rows1, word1, words}
pub use Rattle.ed_initial1.specs.Listing.{first_orders}
pub use Rattle.ed_initial1.specs.Load.{at_31, EndsAs1, IsQuiet1}
pub use Rattle.ed_initial1.specs.Reading.{row_effect1}
pub use Rattle.ed_initial1.specs.declared.cause.Tape1Cause.{Tape1Cause}
pub use Rattle.ed_initial1.specs.declared.cause.Tape1Cause.TheVariants.{BadRow, EndOfTape, FirstWord}
pub use Rattle.ed_initial1.specs.declared.loading.Loaded1.{Loaded1}
pub use Rattle.ed_initial1.specs.declared.loading.Loaded1.TheVariants.{Entered}
pub use Rattle.ed_initial1.specs.declared.reader.PartialItem1.{PartialItem1}
pub use Rattle.ed_initial1.specs.declared.reader.RowEffect1.{RowEffect1}
pub use Rattle.ed_initial1.specs.declared.reader.RowEffect1.TheVariants.{Ended, Longer, Refused}
