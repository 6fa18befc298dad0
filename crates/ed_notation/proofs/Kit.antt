-- The names that the proofs of this crate cite, passed on from one place. Declares nothing.
pub use Rattle.std.proofs.Common.{[], append_assoc, Bool, drop, false, if◌then◌else◌, inl, inr, length, length-append}
pub use Rattle.std.proofs.Common.{List, lit<, lit≤, nat_le, nat_lt, None, Option, refl, replicate, set, Some, subst}
pub use Rattle.std.proofs.Common.{suc, take, true, true≢false, unwrap_or, ℕ, ◌&&◌, ◌++◌, ◌+◌, ◌-◌, ◌<◌, ◌∷◌, ◌≡◌, ◌≢◌}
pub use Rattle.std.proofs.Common.{◌≤◌, ◌⊎◌, rules}
pub use Rattle.std.specs.List.{flat_map, list_all}
pub use Rattle.std.proofs.Math.Bool.{and-false}
pub use Rattle.std.proofs.Math.Nat.{add-zero}
pub use Rattle.std.proofs.lemmas.Bool.{and_parts, eqb-false, eqb-true, le-leb, le-ltb, leb-false, leb-true, lt-leb}
pub use Rattle.std.proofs.lemmas.Bool.{lt-ltb, ltb-false, ltb-true}
pub use Rattle.std.proofs.lemmas.List.{append-nil, at_drop_all, drop_all, get_or-set_other, length-replicate}
pub use Rattle.ed_words.specs.Sizes.{locations}
pub use Rattle.ed_words.specs.Words.{digit}
pub use Rattle.ed_words.specs.declared.order_words.TheConstants.{E_F, T_F}
pub use Rattle.ed_words.specs.declared.size.Size.{Size}
pub use Rattle.ed_words.proofs.Choices.{if_means}
pub use Rattle.ed_words.proofs.SizeLemmas.{locations_most}
pub use Rattle.ed_codes.specs.Spelling.{byte_of, row_of}
pub use Rattle.ed_store.proofs.Kit.{ap, arith, get_or, nat_eq, sym, ◌%◌, ◌*◌, ◌/◌, ◌∙◌}
pub use Rattle.ed_notation.specs.Beginnings.{IsSoundTo}
pub use Rattle.ed_notation.specs.Checks.{ArePlaces, Arrives, marks_of}
pub use Rattle.ed_notation.specs.Faults.{AreRead, AreSound, Breaks, breaks, cause_number, EndsSound, is_broken}
pub use Rattle.ed_notation.specs.Faults.{is_place, IsFault, IsPart, IsRead, part_rows, RowsReachEntry, TapeEntry}
pub use Rattle.ed_notation.specs.Faults.{WellFormed}
pub use Rattle.ed_notation.specs.Fold.{act, address, begun_cost, control_of, cost_of, costs, end_cost, ending_effect}
pub use Rattle.ed_notation.specs.Fold.{entering, fold, is_entry, item_word, letter_action_of, NotationState, over}
pub use Rattle.ed_notation.specs.Items.{AreDigits, Begun, begun_rows, digits_number, ends, is_empty, IsBegun, IsWritten}
pub use Rattle.ed_notation.specs.Items.{item, item_of, items, mark_rows, row_kind, rows_of, spelled_rows, Written}
pub use Rattle.ed_notation.specs.Openings.{IsDirective, opening_with}
pub use Rattle.ed_notation.specs.Reading.{Arrived, entry_by, Faulty, IsPartial, letter_effect, part_of, placed_by}
pub use Rattle.ed_notation.specs.Reading.{ReadingIsRules, row_effect, set_by, setting_of, Verdict}
unfoldable pub use Rattle.ed_notation.specs.Reading.{reading_on}
pub use Rattle.ed_notation.specs.Spellings.{AreWritten, canonical, canonicals, digit_at, digits_of, is_spellable}
pub use Rattle.ed_notation.specs.Spellings.{line_from, SpellsAll, text_of}
pub use Rattle.ed_notation.specs.declared.cause.TapeCause.{TapeCause}
pub use Rattle.ed_notation.specs.declared.cause.TapeCause.TheVariants.{AfterMark, BadControl, BadRow, EndOfTape}
pub use Rattle.ed_notation.specs.declared.cause.TapeCause.TheVariants.{EntryInLoader, EntryNegative, LoaderStore}
pub use Rattle.ed_notation.specs.declared.cause.TapeCause.TheVariants.{NoPlace, NumberTooLarge, StoreEnd}
pub use Rattle.ed_notation.specs.declared.item.Item.{Item}
pub use Rattle.ed_notation.specs.declared.kind.Control.{Control}
pub use Rattle.ed_notation.specs.declared.kind.Control.TheVariants.{Directive, Neither, ThetaByBlank}
pub use Rattle.ed_notation.specs.declared.kind.LetterAction.{LetterAction}
pub use Rattle.ed_notation.specs.declared.kind.LetterAction.TheVariants.{Enters, Nowhere, Places, Unset}
pub use Rattle.ed_notation.specs.declared.kind.RowKind.{RowKind}
pub use Rattle.ed_notation.specs.declared.kind.RowKind.TheVariants.{Blank, Digit, Kay, Letter, Mark, Other, Zed}
pub use Rattle.ed_notation.specs.declared.reader.DirectiveState.{DirectiveState}
pub use Rattle.ed_notation.specs.declared.reader.PartialItem.{PartialItem}
pub use Rattle.ed_notation.specs.declared.reader.RowEffect.{RowEffect}
pub use Rattle.ed_notation.specs.declared.reader.RowEffect.TheVariants.{Ended, Entered, Longer, Placed, Refused}
