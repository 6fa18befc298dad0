-- The names that the proofs of this crate cite, passed on from one place. Declares nothing.
pub use Rattle.ed_lines.specs.declared.fault.SourceCause.{SourceCause}
pub use Rattle.ed_lines.specs.declared.program.Operand.{Operand}
pub use Rattle.ed_lines.specs.declared.program.Setting.{Setting}
pub use Rattle.ed_lines.specs.declared.program.Statement.{Statement}
pub use Rattle.std.proofs.Common.{Err, IfErr, nat_le, negsuc, option_and_then, option_map, suc, unsigned_abs, ◌-◌}
pub use Rattle.std.specs.Str.{bytes_eq}
pub use Rattle.std.proofs.Math.Bool.{and-false, or-true}
pub use Rattle.std.proofs.lemmas.Bool.{le-leb, le-ltb, leb-true, lt-ltb, ltb-true, or_parts}
pub use Rattle.std.proofs.lemmas.Int.{ints}
pub use Rattle.std.proofs.lemmas.List.{map-append, take-append-drop, take_all}
pub use Rattle.std.proofs.lemmas.List.Sums.{fold-append}
pub use Rattle.std.proofs.lemmas.Result.{err_from_is_err_and}
pub use Rattle.ed_words.specs.Decimals.{is_digit, value}
pub use Rattle.ed_codes.specs.Spelling.{letters, row_of}
pub use Rattle.ed_lines.specs.Names.{is_local_name, is_lower, is_run_byte}
pub use Rattle.ed_lines.specs.Programs.{are_rows, is_form, may_have_label}
pub use Rattle.ed_lines.specs.declared.fault.SourceCause.TheVariants.{BadByte, NotAStatement, NumberRange}
pub use Rattle.ed_lines.specs.declared.fault.SourceFault.{SourceFault}
pub use Rattle.ed_lines.specs.declared.fault.SourceFault.TheVariants.{At, Memory}
pub use Rattle.ed_lines.specs.declared.program.Line.{Line}
pub use Rattle.ed_lines.proofs.Kit.{[], ap, append_assoc, arith, Bool, codes, drop, false, get_or, IfOk, IfSome}
pub use Rattle.ed_lines.proofs.Kit.{if◌then◌else◌, inl, inr, length, length-append, List, map, nat_eq, nat_lt, neg_ℤ}
pub use Rattle.ed_lines.proofs.Kit.{None, not, Ok, Option, pos, refl, Result, rules, Some, subst, sym, take, true, zero}
pub use Rattle.ed_lines.proofs.Kit.{ℕ, ℤ, ◌&&◌, ◌*◌, ◌++◌, ◌+◌, ◌<◌, ◌==◌, ◌^◌, ◌||◌, ◌∙◌, ◌∷◌, ◌≡◌, ◌≤◌, ◌⊎◌, decimal}
pub use Rattle.ed_lines.proofs.Kit.{list_all, and_from, and_parts, Decides-eqb, nat_tests, common_steps, append-nil}
pub use Rattle.ed_lines.proofs.Kit.{length-map, take_at, bytes_eq-Decides, Text, number_of, is_name, is_place_name}
pub use Rattle.ed_lines.proofs.Kit.{AreNumbered, is_base, is_line, is_operand, is_setting, is_statement}
pub use Rattle.ed_syntax.specs.Forms.{AreRowsOf, bare_order, blank, comment, data_rows, difference, empty, enter, fetch}
pub use Rattle.ed_syntax.specs.Forms.{fetch_with, has_few_settings, HasLineParts, HasNumberOutOfRange, is_sign}
pub use Rattle.ed_syntax.specs.Forms.{IsNoStatement, label, labelled, last, long, minus, more, name, negative, nothing}
pub use Rattle.ed_syntax.specs.Forms.{number, one_run, one_sign, one_string, order, placed, plus, positive, segment}
pub use Rattle.ed_syntax.specs.Forms.{segment_at, setting, SpellsForm, SpellsInteger, SpellsLine, SpellsOperand}
pub use Rattle.ed_syntax.specs.Forms.{SpellsPlaced, SpellsSetting, SpellsSettings, SpellsStatement, statement, sum}
pub use Rattle.ed_syntax.specs.Forms.{text, version, word}
pub use Rattle.ed_syntax.specs.Lines.{ended, has_end, HasLines, lines_of, with_byte, without_return}
pub use Rattle.ed_syntax.specs.Parts.{array, begins_run, function, has_quote, is_blank, is_line_byte, is_number}
pub use Rattle.ed_syntax.specs.Parts.{length_of, LinePart, modulo, quoted, run, setting_letter, sign, with_sign}
pub use Rattle.ed_syntax.specs.Private.Answers.{IsFaultOf}
pub use Rattle.ed_syntax.specs.Private.Found.{form_result}
pub use Rattle.ed_syntax.specs.Private.LineFronts.{with_lines_before}
pub use Rattle.ed_syntax.specs.Private.Seen.{part}
pub use Rattle.ed_syntax.specs.Reading.Grammar.{form_at, is_plus_or_minus, is_version_two, labelled_line}
pub use Rattle.ed_syntax.specs.Reading.Grammar.{placed_statement, Ranged, ranged_map}
unfoldable pub use Rattle.ed_syntax.specs.Reading.Grammar.{settings}
pub use Rattle.ed_syntax.specs.Reading.Parts.{parts_from, parts_of, with_run_byte}
pub use Rattle.ed_syntax.specs.Reading.Sources.{Fault, line_of, lines_from, or_cause, with_first}
pub use Rattle.ed_syntax.specs.Sources.{and_more, IsFormFault, IsOfVersion, IsPlain, IsProgram, IsVersionTwo, LineSays}
pub use Rattle.ed_syntax.specs.Sources.{LinesSay, no_more}
pub use Rattle.ed_syntax.specs.Versions.{is_second}
pub use Rattle.ed_syntax.specs.Written.{form_text, line_text, row_letter, settings_after, text_of_program}
pub use Rattle.ed_syntax.specs.declared.form.Form.{Form}
pub use Rattle.ed_syntax.specs.declared.form_fault.FormFault.{FormFault}
pub use Rattle.ed_syntax.specs.declared.form_fault.FormFault.TheVariants.{NotThisForm, OutOfRange}
