-- The names that the proofs of this crate cite, passed on from one place. Declares nothing.
pub use Rattle.std.proofs.Common.{append-nil, Global, max, min, reverse, take, Vec}
pub use Rattle.std.specs.List.{Contains, sum_by}
pub use Rattle.std.proofs.lemmas.Bool.{cases_eq, eq-eqb, ne_eqb}
pub use Rattle.std.proofs.lemmas.List.{get_or-set_same, length-set, reverse-append}
pub use Rattle.std.proofs.lemmas.List.Elements.{All-contains}
pub use Rattle.std.proofs.lemmas.List.Sums.{AllPass-from_list_all}
pub use Rattle.std.proofs.lemmas.Option.{same_Some}
pub use Rattle.ed_words.specs.declared.order_words.TheConstants.{E_F, T_F}
pub use Rattle.ed_words.specs.declared.size.Size.{Size}
pub use Rattle.ed_words.proofs.SizeLemmas.{locations_least}
pub use Rattle.ed_codes.specs.Reading.{reading, rows}
pub use Rattle.ed_codes.specs.Text.{Spells}
pub use Rattle.ed_notation.specs.Fold.{placed_at, word_with}
pub use Rattle.ed_notation.specs.Spellings.{AreSpellable, item_rows}
pub use Rattle.ed_notation.specs.declared.item.Item.{Item}
pub use Rattle.ed_notation.specs.declared.kind.RowKind.TheVariants.{Letter}
pub use Rattle.ed_notation.proofs.ItemRows.{all_rows_are}
pub use Rattle.ed_notation.proofs.Kit.{[], ap, append_assoc, arith, Bool, drop, false, get_or, if◌then◌else◌, inl, inr}
pub use Rattle.ed_notation.proofs.Kit.{length, length-append, List, lit≤, nat_eq, nat_le, nat_lt, None, Option, refl}
pub use Rattle.ed_notation.proofs.Kit.{replicate, set, Some, subst, suc, sym, true, unwrap_or, ℕ, ◌%◌, ◌&&◌, ◌*◌, ◌++◌}
pub use Rattle.ed_notation.proofs.Kit.{◌+◌, ◌-◌, ◌/◌, ◌<◌, ◌∙◌, ◌∷◌, ◌≡◌, ◌≤◌, ◌⊎◌, flat_map, list_all, and_parts}
pub use Rattle.ed_notation.proofs.Kit.{eqb-true, le-ltb, leb-true, lt-ltb, ltb-true, get_or-set_other, length-replicate}
pub use Rattle.ed_notation.proofs.Kit.{locations, digit, locations_most, byte_of, cost_of, is_entry, item_word}
pub use Rattle.ed_notation.proofs.Kit.{NotationState, row_kind, canonical, canonicals, is_spellable, line_from}
pub use Rattle.ed_notation.proofs.Parts.{one_more}
pub use Rattle.ed_notation.proofs.Steps.{Does-aiming, Does-placing}
pub use Rattle.ed_lines.specs.declared.fault.SourceCause.{SourceCause}
pub use Rattle.ed_lines.specs.declared.fault.SourceFault.{SourceFault}
pub use Rattle.ed_lines.specs.declared.fault.SourceFault.TheVariants.{At}
pub use Rattle.ed_lines.specs.declared.program.Line.{Line}
pub use Rattle.ed_lines.specs.declared.program.Operand.{Operand}
pub use Rattle.ed_lines.specs.declared.program.Setting.{Setting}
pub use Rattle.ed_lines.specs.declared.program.Statement.{Statement}
pub use Rattle.ed_lines.specs.declared.program.Statement.TheVariants.{Enter, Fetch, Long, Number, Order, Rows}
pub use Rattle.ed_lines.specs.declared.program.Statement.TheVariants.{Segment, Text}
pub use Rattle.ed_lines.proofs.Kit.{map, rules, zero, ◌==◌, ◌^◌, and_from, nat_tests, length-map, AreNumbered}
pub use Rattle.ed_lines.proofs.Kit.{is_line}
pub use Rattle.ed_library.specs.Entries.{catalogue, entry}
pub use Rattle.ed_library.specs.Images.{routine_word}
pub use Rattle.ed_library.specs.Ready.{is_ready, is_ready_row}
pub use Rattle.ed_library.specs.Routines.{find, missing_row, table_item}
pub use Rattle.ed_library.specs.declared.tables.TableRow.{TableRow}
pub use Rattle.ed_symbols.specs.NameTests.{resolution}
pub use Rattle.ed_symbols.specs.Names.{place_on}
pub use Rattle.ed_symbols.specs.Places.{even_from, routine_places, segment_at}
pub use Rattle.ed_symbols.specs.declared.location_counter.LocationCounter.{LocationCounter}
pub use Rattle.ed_symbols.specs.declared.symbols.Definition.{Definition}
pub use Rattle.ed_symbols.proofs.Kit.{is_none, is_some, not, ◌||◌, list_any, or_cases, drop_more, number_of}
pub use Rattle.ed_symbols.proofs.Kit.{counter_after, counter_from, IsLineAfter, or_later, after_statement}
pub use Rattle.ed_symbols.proofs.Kit.{first_counter}
pub use Rattle.ed_symbols.proofs.Sentences.{not_true, Ties, true_not}
pub use Rattle.ed_link.specs.Answers.{IsLinked}
pub use Rattle.ed_link.specs.FaultTests.{any_enter, cause_of, earlier_fault, extent, extent_at, fault, fault_from}
pub use Rattle.ed_link.specs.FaultTests.{has_no_routine, has_sandwich, is_enter, is_misplaced, is_outside}
pub use Rattle.ed_link.specs.FaultTests.{LinesBefore, missing, overlaps, past_of, reach, sets, sets_otherwise}
pub use Rattle.ed_link.specs.FaultTests.{word_extent}
pub use Rattle.ed_link.specs.Faults.{HasEnter, HasNoFault, on_line}
pub use Rattle.ed_link.specs.Labels.{label_of, labels}
pub use Rattle.ed_link.specs.Linked.{data_after, end_place, entered_place, entry_from, first_place, image}
pub use Rattle.ed_link.specs.Linked.{linked_words, long_words, operand_number, parameter_letters, parameters}
pub use Rattle.ed_link.specs.Linked.{placed_by_line, placed_from, placed_words, preset, presets, set_to, symbols_of}
pub use Rattle.ed_link.specs.Linked.{theta_from}
pub use Rattle.ed_link.specs.Private.Building.{first_past, IsBuilt, IsFew, IsFinished}
pub use Rattle.ed_link.specs.Punch.{goes_by_theta, head, heads, item_with, items_of, order_item, preset_items}
pub use Rattle.ed_link.specs.Punch.{punched_from, punched_items, routine_items, use_items, with_heading, word_item}
pub use Rattle.ed_link.specs.Tables.{put_all, table_of, word_at, words_from}
unfoldable pub use Rattle.ed_link.specs.Tables.{empty_table}
pub use Rattle.ed_link.specs.Tapes.{after_text, item_cost}
unfoldable pub use Rattle.ed_link.specs.Words.{linked_places}
pub use Rattle.ed_link.specs.declared.building.Built.{Built}
pub use Rattle.ed_link.specs.declared.faults.Extent.{Extent}
pub use Rattle.ed_link.specs.declared.linked.Linked.{Linked}
pub use Rattle.ed_link.specs.declared.linked.Placed.{Placed}
