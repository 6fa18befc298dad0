-- The names that the proofs of this crate cite, passed on from one place. Declares nothing.
pub use Rattle.std.proofs.Common.{append-nil, codes, rules}
pub use Rattle.ed_words.specs.declared.order_words.TheConstants.{C_F, O_F, T_F}
pub use Rattle.ed_words.specs.declared.size.Size.{Size}
pub use Rattle.ed_machine.specs.Sheet.{Sheet}
pub use Rattle.ed_machine.specs.declared.ending.Ending.{Ending}
pub use Rattle.ed_machine.specs.declared.turn.Turn.TheVariants.{Stopped}
pub use Rattle.ed_machine.proofs.Kit.Frames.{Frame}
pub use Rattle.ed_machine.proofs.Kit.Leads.{Leads}
pub use Rattle.ed_machine.proofs.Kit.Window.{get_above}
pub use Rattle.ed_machine.proofs.Kit.Zeros.{begun, shown}
pub use Rattle.ed_run.specs.Run.{IsRun}
pub use Rattle.ed_notation.specs.declared.item.Item.{Item}
pub use Rattle.ed_notation.proofs.Kit.{append_assoc, length-append, le-leb, locations_most, canonicals, digit_at}
pub use Rattle.ed_notation.proofs.Kit.{digits_of, is_spellable}
pub use Rattle.ed_notation.proofs.Placing.{block, block_cost}
pub use Rattle.ed_initial.proofs.Kit.{[], ap, arith, Bool, drop, false, get_or, if◌then◌else◌, inl, inr, length, List}
pub use Rattle.ed_initial.proofs.Kit.{lit<, lit≤, nat_le, nat_lt, None, Option, refl, Some, subst, suc, sym, true, zero}
pub use Rattle.ed_initial.proofs.Kit.{ℕ, ◌%◌, ◌*◌, ◌++◌, ◌+◌, ◌-◌, ◌/◌, ◌<◌, ◌^◌, ◌∙◌, ◌∷◌, ◌≡◌, ◌≤◌, cases_lt}
pub use Rattle.ed_initial.proofs.Kit.{nat_tests, locations, locations_least, Obeyed, State, state_after, Moment}
pub use Rattle.ed_initial.proofs.Kit.{TapeEntry, over, spelled_rows}
unfoldable pub use Rattle.ed_initial.proofs.Kit.{step, patched}
pub use Rattle.ed_postmortem.specs.Answers.{IsPrinted}
pub use Rattle.ed_postmortem.specs.Codes.{address_digits, digits_before_units, is_even, length_code, length_orders}
pub use Rattle.ed_postmortem.specs.Codes.{number_in, word_codes, word_orders}
unfoldable pub use Rattle.ed_postmortem.specs.Codes.{printed_codes, words_orders}
pub use Rattle.ed_postmortem.specs.Tape.{count_item, orders, rows_of_text, tape_rows}
