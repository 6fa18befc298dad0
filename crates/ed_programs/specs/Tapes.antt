-- What is stated of a whole tape: what the command `tape` answers to it.
use Rattle.std.specs.Prelude.{◌≡◌, ℕ, ◌+◌, ◌≤◌, List, [], None}
use Rattle.std.specs.Prelude.{Result, Ok, Err, String, string_bytes}
use Rattle.std.specs.declared.alloc.Global.{Global}
use Rattle.ed_words.specs.Texts.{Text}
use Rattle.ed_codes.specs.Reading.{reading, rows}
use Rattle.ed_store.specs.Cells.{cleared_cells}
use Rattle.ed_run.specs.declared.settings.Settings.{Settings}
use Rattle.ed_notation.specs.Faults.{RowsReachEntry, TapeEntry, WellFormed}
use Rattle.ed_command.specs.declared.command.Action.TheVariants.{Tape}
use Rattle.ed_tapes.specs.Answer.{IsDue}
use Rattle.ed_top.specs.Output.{answer}
use Rattle.ed_tapes.specs.Tapes.{opening_notation}
use Rattle.ed_programs.specs.Programs.{stop_outcome}
use Rattle.ed_programs.specs.declared.refusal.Refusal.{Refusal}

-- the text spells rows that are well formed and reach an entry at this cost, from which their run continues (the law
-- `tapes`); and if the limit is at least this cost and the orders of the program together, the answer of the command
-- `tape` to the text is this paper, the note of a stop at a location after exactly these orders, and status 0
pub record TapeRuns (s : Settings) (tape : Text) (cost orders at : ℕ) (paper : Text) : Type 0 where
  pub codes_of : List ℕ
  pub spelled : reading tape ≡ rows codes_of
  pub entry : TapeEntry
  pub well : WellFormed s.size cleared_cells.words opening_notation codes_of
  pub comes : RowsReachEntry cleared_cells.words opening_notation 9 codes_of entry
  pub cost_is : entry.cost ≡ cost
  pub outcome : s.resumes ≡ 0 → s.post_mortem ≡ None → cost + orders ≤ s.limit
      → IsDue (answer Tape s) tape (stop_outcome [] paper at (cost + orders))

-- for all settings, the tape that is answered is loaded and run in exactly these orders, prints this, and
-- stops there
abbrev pub TapePrints : ℕ → ℕ → ℕ → Text → Result (String Global) Refusal → Type 0
TapePrints cost orders at paper (Ok tape) = (s : Settings) → TapeRuns s (string_bytes tape) cost orders at paper
TapePrints cost orders at paper (Err refusal) = Unit {0}
