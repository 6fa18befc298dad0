-- The names that the proofs of this crate cite, passed on from one place. Declares nothing.
pub use Rattle.std.proofs.Common.{decimal, string_bytes, sum_by}
pub use Rattle.std.proofs.Math.Nat.{mod-lt}
pub use Rattle.std.proofs.lemmas.Bool.{not-true}
pub use Rattle.std.proofs.lemmas.Grind.{flat_map-append}
pub use Rattle.std.proofs.lemmas.List.Folds.{list_all-append}
pub use Rattle.std.proofs.lemmas.List.Sums.{sum_by-append, sum_by-cons}
pub use Rattle.ed_words.specs.declared.order_words.TheConstants.{A_F, G_F, Z_F}
pub use Rattle.ed_words.specs.declared.size.Size.{Size}
pub use Rattle.ed_words.proofs.SizeLemmas.{within_below}
pub use Rattle.ed_orders.specs.declared.kind.Kind.TheVariants.{G}
pub use Rattle.ed_machine.proofs.Kit.Leads.{Leads-append, no_stops}
pub use Rattle.ed_machine.proofs.Kit.Standing.{patched-filled}
pub use Rattle.ed_run.specs.declared.settings.Settings.{Settings}
pub use Rattle.ed_notation.specs.declared.item.Item.{Item}
pub use Rattle.ed_syntax.specs.Reading.Grammar.{row, spells}
pub use Rattle.ed_lines.specs.declared.program.Line.{Line}
pub use Rattle.ed_lines.specs.declared.program.Statement.{Statement}
pub use Rattle.ed_syntax.proofs.Kit.{append_assoc, codes, length-append, map, nat_eq, nat_le, None, not, Ok, pos, take}
pub use Rattle.ed_syntax.proofs.Kit.{◌||◌, list_all, and_from, and_parts, le-leb, leb-true, ltb-true, nat_tests}
pub use Rattle.ed_syntax.proofs.Kit.{length-map, is_digit, value, Text, row_of, is_run_byte, is_line_byte, is_number}
pub use Rattle.ed_syntax.proofs.Kit.{LinePart, run, sign, form_at, parts_of, line_of, lines_from}
unfoldable pub use Rattle.ed_syntax.proofs.Kit.{settings}
pub use Rattle.ed_syntax.proofs.PartLemmas.{run_parts}
pub use Rattle.ed_library.specs.CallRanges.{IsDivisible}
pub use Rattle.ed_library.specs.Images.{image_word}
unfoldable pub use Rattle.ed_library.specs.Images.{parameter_store}
pub use Rattle.ed_library.specs.declared.call.Call.{Call}
pub use Rattle.ed_library.specs.declared.call.Call.TheVariants.{Check, Divide, NewLine, Print, Read, Root}
pub use Rattle.ed_symbols.specs.declared.location_counter.LocationCounter.{LocationCounter}
pub use Rattle.ed_symbols.specs.declared.symbols.Definition.{Definition}
pub use Rattle.ed_link.proofs.Extents.{counter}
pub use Rattle.ed_link.proofs.Kit.{append-nil, reverse, unwrap_or, eq-eqb, eqb-true, ne_eqb, length-replicate}
pub use Rattle.ed_link.proofs.Kit.{locations_least, placed_at, first_counter, fault, linked_words, placed_words}
pub use Rattle.ed_link.proofs.Kit.{symbols_of, item_with, punched_items, word_item, item_cost}
pub use Rattle.ed_routines.specs.Digits.{before_units}
pub use Rattle.ed_routines.proofs.Called.{IsCalled}
pub use Rattle.ed_routines.proofs.Digits.{digits_law, few_digits, tens}
pub use Rattle.ed_routines.proofs.Journeys.{HasRoutine, ReachesStop}
pub use Rattle.ed_routines.proofs.Kit.{[], ap, arith, Bool, drop, false, get_or, if◌then◌else◌, inl, inr, length, List}
pub use Rattle.ed_routines.proofs.Kit.{lit<, lit≤, nat_lt, Option, refl, rules, Some, subst, suc, sym, true, zero, ℕ}
pub use Rattle.ed_routines.proofs.Kit.{◌%◌, ◌*◌, ◌++◌, ◌+◌, ◌-◌, ◌/◌, ◌<◌, ◌==◌, ◌^◌, ◌∙◌, ◌∷◌, ◌≡◌, ◌≤◌, ◌⊎◌, le-ltb}
pub use Rattle.ed_routines.proofs.Kit.{lt-ltb, locations, locations_most, short_at, State, state_after, Frame, Moment}
pub use Rattle.ed_routines.proofs.Kit.{short, state, AreObeyed-leads, Leads, A, G_jumps, Leads-path, on, Path, stay}
pub use Rattle.ed_routines.proofs.Kit.{own, Holds, place_count, newline, print, read, with_h, after_digits, digit_rows}
pub use Rattle.ed_routines.proofs.Kit.{digits, digits_value, print_orders, sum, without_zeros, IsOther, caller, HasWord}
pub use Rattle.ed_routines.proofs.Kit.{IsLoadedAt, IsOutside}
unfoldable pub use Rattle.ed_routines.proofs.Kit.{step, patched}
pub use Rattle.ed_maths.specs.Quotients.{divide, IsDivision, with_hnm}
pub use Rattle.ed_maths.specs.Roots.{root, root_of, with_hn}
pub use Rattle.ed_maths.proofs.Greatest.{root_is}
pub use Rattle.ed_maths.proofs.Kit.{divide_orders, dividend, IsRoot, root_orders}
pub use Rattle.ed_checker.specs.Laws.{ChecksToStop}
pub use Rattle.ed_checker.proofs.Guests.{size_after}
pub use Rattle.ed_checker.proofs.Kit.{cases_lt, function_of, kind_of_function, jump_order, next_word, obey_word}
pub use Rattle.ed_checker.proofs.Kit.{place_of, codes_of, guest}
pub use Rattle.ed_report.specs.Notes.{at_after}
pub use Rattle.ed_headline.specs.FromEntry.{AnswersFromEntry}
pub use Rattle.ed_headline.proofs.EachSource.{read_is_accepted}
pub use Rattle.ed_headline.proofs.Kit.{◌≢◌, paper, RunEnd, is_two, program_of, entry_of, cost, entry_note, entry_state}
pub use Rattle.ed_headline.proofs.Kit.{run_outcome}
unfoldable pub use Rattle.ed_headline.proofs.Kit.{progress, run_end}
pub use Rattle.ed_headline.proofs.Sources.{accepted_is, each_answer_is_from_entry}
pub use Rattle.ed_sources.specs.CallRuns.{call_orders, most_call_orders}
pub use Rattle.ed_sources.specs.CallSources.{call_text, filled_text, text_of_lines}
pub use Rattle.ed_sources.specs.Costs.{call_cost, demo_cost, word_cost}
pub use Rattle.ed_sources.specs.DemoSources.{adding_pieces, demo_sum, next, number_after, number_word, segments}
pub use Rattle.ed_sources.specs.DemoSources.{word_lines, words_after}
unfoldable pub use Rattle.ed_sources.specs.DemoSources.{demo_text}
pub use Rattle.ed_sources.proofs.Stops.{StopsAt-behind, StopsAt}
