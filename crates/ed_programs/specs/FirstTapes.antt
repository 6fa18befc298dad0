-- What is stated of a whole tape of May 1949: what the command `tape1` answers to it.
use Rattle.std.specs.Prelude.{◌≡◌, ℕ, ◌+◌, ◌≤◌, List, []}
use Rattle.std.specs.Prelude.{Result, Ok, Err, String, string_bytes}
use Rattle.std.specs.declared.alloc.Global.{Global}
use Rattle.ed_words.specs.Texts.{Text}
use Rattle.ed_codes.specs.Reading.{reading, rows}
use Rattle.ed_run.specs.declared.settings.Settings.{Settings}
use Rattle.ed_initial1.specs.Faults.{ReachesEntry1, Tape}
use Rattle.ed_command.specs.declared.command.Action.TheVariants.{Tape1}
use Rattle.ed_tapes.specs.Answer.{IsDue}
use Rattle.ed_laws.specs.FirstEntry.{cost1}
use Rattle.ed_top.specs.Output.{answer}
use Rattle.ed_programs.specs.Programs.{stop_outcome}
use Rattle.ed_programs.specs.declared.refusal.Refusal.{Refusal}

-- the text spells rows that give a program at this cost, whose run continues from its entry at 31 (the law
-- `first_orders`); and if the limit is at least this cost and the orders of the program together, the answer of the
-- command `tape1` to the text is this paper, the note of a stop at a location after exactly these orders, and status 0
pub record FirstTapeRuns (s : Settings) (tape : Text) (cost orders at : ℕ) (paper : Text) : Type 0 where
  pub codes_of : List ℕ
  pub spelled : reading tape ≡ rows codes_of
  pub program : Tape
  pub comes : ReachesEntry1 codes_of program
  pub cost_is : cost1 program ≡ cost
  pub outcome : s.resumes ≡ 0 → cost + orders ≤ s.limit
      → IsDue (answer Tape1 s) tape (stop_outcome [] paper at (cost + orders))

-- for all settings, the tape that is answered is loaded and run in exactly these orders, prints this, and
-- stops there
abbrev pub FirstTapePrints : ℕ → ℕ → ℕ → Text → Result (String Global) Refusal → Type 0
FirstTapePrints cost orders at paper (Ok tape) =
    (s : Settings) → FirstTapeRuns s (string_bytes tape) cost orders at paper
FirstTapePrints cost orders at paper (Err refusal) = Unit {0}
