-- What is stated of a whole program: what a call that gives its source answers, and what the command `run` answers to
-- it.
use Rattle.std.specs.Prelude.{◌≡◌, ◌⊎◌, ℕ, ◌+◌, ◌≤◌, List, [], ◌∷◌, ◌++◌, codes, Option, Some, None, Result, Ok, Err}
use Rattle.std.specs.Prelude.{String, replicate, string_bytes}
use Rattle.std.specs.declared.alloc.AllocError.{AllocError}
use Rattle.std.specs.declared.alloc.Global.{Global}
use Rattle.ed_words.specs.Texts.{Text}
use Rattle.ed_run.specs.declared.settings.Settings.{Settings}
use Rattle.ed_lines.specs.declared.program.Line.{Line}
use Rattle.ed_headline.specs.Refusals.{IsAcceptedAs}
use Rattle.ed_link.specs.Linked.{entry_of}
use Rattle.ed_link.specs.Tapes.{cost}
use Rattle.ed_report.specs.Notes.{at_after, entry_note}
use Rattle.ed_command.specs.declared.command.Action.TheVariants.{Run}
use Rattle.ed_tapes.specs.Answer.{IsDue}
use Rattle.ed_tapes.specs.Outcome.{Outcome, line}
use Rattle.ed_headline.specs.FromEntry.{AnswersFromEntry}
use Rattle.ed_top.specs.Output.{answer}
use Rattle.ed_programs.specs.declared.refusal.Refusal.{Refusal}
use Rattle.ed_programs.specs.declared.refusal.Refusal.TheVariants.{Memory}

-- the outcome of a run that stops: its text, the note of the stop at a location after this number of orders, which
-- comes after another note, and the status 0
abbrev pub stop_outcome : Text → Text → ℕ → ℕ → Outcome
stop_outcome before out at orders =
    record { out = out; note = before ++ line (at_after (codes "stopped") at orders); status = 0 }

-- the source is accepted with these lines, and its run is that from the state at their entry; and if the limit is at
-- least the orders up to the entry and those of the program together, the answer of the command `run` is this text, the
-- note of a stop at a location after exactly these orders, and status 0
pub record SourceRuns (s : Settings) (source : Text) (orders at : ℕ) (text : Text) : Type 0 where
  pub lines : List Line
  pub accepted : IsAcceptedAs s.size source lines
  pub from_entry : AnswersFromEntry s lines
  pub outcome : s.resumes ≡ 0 → s.post_mortem ≡ None → cost lines + orders ≤ s.limit
      → IsDue (answer Run s) source
      (stop_outcome (entry_note (entry_of lines) (cost lines)) text at (cost lines + orders))

-- the two pieces around k + 1 data, and a text between each two of these
abbrev pub spread_pieces : ℕ → Text → List Text → List Text
spread_pieces k next [] = []
spread_pieces k next (head ∷ tail) = head ∷ replicate k next ++ tail

-- the answer is the program with this text if nothing refuses its data, otherwise the cause; it may also be that no
-- memory was found
abbrev pub GivesProgram : Option Refusal → Text → Result (String Global) Refusal → Type 0
GivesProgram cause text (Ok program) = (cause ≡ None) × (string_bytes program ≡ text)
GivesProgram cause text (Err refusal) = (refusal ≡ Memory) ⊎ (cause ≡ Some refusal)

-- for all settings, the program that is answered prints this text, in exactly these orders, and stops there
abbrev pub Prints : ℕ → ℕ → Text → Result (String Global) Refusal → Type 0
Prints orders at text (Ok program) = (s : Settings) → SourceRuns s (string_bytes program) orders at text
Prints orders at text (Err refusal) = Unit {0}

-- the answer is the text that was written, or that there was no memory for it
abbrev pub AnswersWritten : Result (String Global) AllocError → Result (String Global) Refusal → Type 0
AnswersWritten (Ok text) (Ok program) = string_bytes program ≡ string_bytes text
AnswersWritten (Err e) (Ok program) = ⊥
AnswersWritten text (Err refusal) = refusal ≡ Memory
