-- The tape of `examples/interlude.tape` for any number, and what is stated of it.
use Rattle.std.specs.Prelude.{◌≡◌, ℕ, ◌+◌, ◌*◌, ◌≤◌, ◌||◌, List, [], ◌∷◌, ◌++◌, codes, length, map, nat_lt}
use Rattle.std.specs.Prelude.{if◌then◌else◌, Option, Some, None, Result, Ok, Err, String, string_bytes}
use Rattle.std.specs.declared.alloc.Global.{Global}
use Rattle.std.specs.Fmt.{decimal}
use Rattle.ed_words.specs.Sizes.{locations}
use Rattle.ed_words.specs.Texts.{Text}
use Rattle.ed_codes.specs.Reading.{reading, rows}
use Rattle.ed_run.specs.declared.settings.Settings.{Settings}
use Rattle.ed_report.specs.Entries.{entry_line, returned_line}
use Rattle.ed_command.specs.declared.command.Action.TheVariants.{Parts, Tape}
use Rattle.ed_tapes.specs.Answer.{IsDue}
use Rattle.ed_sources.specs.CallSources.{filled_text}
use Rattle.ed_top.specs.Output.{answer}
use Rattle.ed_programs.specs.Programs.{stop_outcome}
use Rattle.ed_programs.specs.declared.interlude.TheConstants.{INTERLUDE}
use Rattle.ed_programs.specs.declared.refusal.Refusal.{Refusal}
use Rattle.ed_programs.specs.declared.refusal.Refusal.TheVariants.{Place}

-- the whole tape: its pieces, and the number between them
abbrev pub interlude_text : ℕ → Text
interlude_text number = filled_text (map (λ piece. piece.now) INTERLUDE) (decimal number ∷ [])

-- why a number is refused, if it is: the words, from its double upwards, must be above the program and in the store
abbrev pub interlude_refusal : ℕ → Option Refusal
interlude_refusal number = if nat_lt number 34 || nat_lt 510 number then Some Place else None

-- the orders that load the interlude: 9 for each figure of the number, and 372 others
abbrev pub interlude_cost : ℕ → ℕ
interlude_cost number = 372 + 9 * length (decimal number)

-- the orders up to the stop: those, the 5 of the interlude, 280 that load the program, and its 4
abbrev pub interlude_orders : ℕ → ℕ
interlude_orders number = interlude_cost number + 5 + 280 + 4

-- the lines of `parts`: the entry of the interlude, its return, and the entry of the program; the rows that lead to
-- these entries are one for each figure of the number and 35 others, and 26 more
abbrev pub interlude_lines : ℕ → Text
interlude_lines number =
    entry_line 100 (interlude_cost number) (35 + length (decimal number))
    ++ (returned_line (2 * number) (interlude_cost number + 5)
    ++ entry_line 64 (interlude_cost number + 5 + 280) (35 + length (decimal number) + 26))

-- the text spells rows; and if the limit is at least the orders up to the stop, the answer of `parts` is these lines
-- and that of `tape` is HI, each with the note of the stop and status 0
pub record InterludeRuns (s : Settings) (tape : Text) (number : ℕ) : Type 0 where
  pub codes_of : List ℕ
  pub spelled : reading tape ≡ rows codes_of
  pub parts : interlude_orders number ≤ s.limit
      → IsDue (answer Parts s) tape (stop_outcome [] (interlude_lines number) 68 (interlude_orders number))
  pub whole : s.resumes ≡ 0 → s.post_mortem ≡ None → interlude_orders number ≤ s.limit
      → IsDue (answer Tape s) tape (stop_outcome [] (codes "HI") 68 (interlude_orders number))

-- for all settings, if the store has the locations for its words, the tape that is answered runs so
abbrev pub InterludePrints : ℕ → Result (String Global) Refusal → Type 0
InterludePrints number (Ok tape) = (s : Settings) → 2 * number + 3 ≤ locations s.size
    → InterludeRuns s (string_bytes tape) number
InterludePrints number (Err refusal) = Unit {0}
