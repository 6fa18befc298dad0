-- The names that the proofs of this crate cite, passed on from one place. Declares nothing.
pub use Rattle.clap.specs.Faults.{settle_fault}
unfoldable pub use Rattle.clap.specs.Faults.{walk_fault}
pub use Rattle.clap.specs.Kinds.{Kinds, or_else}
pub use Rattle.clap.specs.Simple.{built, Shape}
pub use Rattle.clap.specs.Walk.{arg_by_long, Held, option, Row, Rule, settled_rows, Walk}
unfoldable pub use Rattle.clap.specs.Walk.{walked}
pub use Rattle.clap.specs.Words.{App, app_of, rule_of}
pub use Rattle.clap.specs.declared.builder.arg.Arg.{Arg}
pub use Rattle.clap.specs.declared.builder.command.Command.{Command}
pub use Rattle.clap.specs.declared.error.kind.ErrorKind.{ErrorKind}
pub use Rattle.std.proofs.Common.{ap₂, Bor, codes, drop, fold, get_or, if◌then◌else◌, List, map, nat_lt, Option}
pub use Rattle.std.proofs.Common.{option_and_then, option_map, slice_index_or, string_bytes, subst, unwrap_or, ◌&&◌}
pub use Rattle.std.proofs.Common.{◌++◌, ◌∷◌}
pub use Rattle.std.specs.List.{after_first, before_first, list_all, list_any}
pub use Rattle.std.specs.Str.{bytes_eq}
pub use Rattle.std.proofs.lemmas.Grind.{common_steps}
pub use Rattle.std.proofs.lemmas.List.{append-nil, at_drop_all, at_drop_more}
pub use Rattle.std.proofs.lemmas.Slice.Eq.{bytes_eq-Decides}
pub use Rattle.ed_words.specs.Decimals.{number, number_within}
pub use Rattle.ed_words.specs.Texts.{Text}
pub use Rattle.ed_words.specs.declared.size.Size.{Size}
pub use Rattle.ed_run.proofs.Kit.{[], ap, arith, Bool, false, inl, inr, length, None, refl, Some, sym, true, ℕ, ◌+◌}
pub use Rattle.ed_run.proofs.Kit.{◌<◌, ◌∙◌, ◌≡◌, ◌≤◌, nat_tests}
pub use Rattle.ed_library.specs.declared.call.Call.TheVariants.{NewLine}
pub use Rattle.ed_command.specs.Found.{is_plain_or_long}
pub use Rattle.ed_command.specs.Held.{line_in, options_in}
pub use Rattle.ed_command.specs.Lines.{call_of, command, command_of, division, line_named, lines, TableLine, with_only}
pub use Rattle.ed_command.specs.Rules.{app, kept_rule, option_rule, with_option, words_rule}
pub use Rattle.ed_command.specs.Settings.{all_settings, limit_of, option_value, Options, post_mortem_of, resumes_of}
pub use Rattle.ed_command.specs.Settings.{settings_of}
pub use Rattle.ed_command.specs.Windows.{is_comma, window, window_named}
pub use Rattle.ed_command.specs.Words.{begins_with_dash, is_dash, is_option, with_setting, with_word, word_parts_from}
pub use Rattle.ed_command.specs.Words.{WordParts}
pub use Rattle.ed_command.specs.declared.command.Action.{Action}
