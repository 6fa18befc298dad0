-- The answer of `step` (this project's own rules).
use Rattle.std.specs.Prelude.{◌≡◌, ◌⊎◌, ℕ, ◌+◌, List, length, Option, Some, None}
use Rattle.ed_codes.specs.Reading.{Reading, rows, no_row, open_comment, reading}
use Rattle.ed_codes.specs.declared.tape.TextFault.TheVariants.{NoRow, OpenComment}
use Rattle.ed_link.specs.Tapes.{tape}
use Rattle.ed_report.specs.Notes.{bad_command_line, no_text_line, text_fault_line, too_far_line}
use Rattle.ed_stepper.specs.Inputs.{Input, IsDivided, IsUndivided}
use Rattle.ed_stepper.specs.ScriptLines.{CommandList, IsFirstBadLine, OfScript}
use Rattle.ed_stepper.specs.Scripts.{Played, TooFar, play}
use Rattle.ed_stepper.specs.Sessions.{Stand}
use Rattle.ed_stepper.specs.declared.inputs.TextKind.{TextKind}
use Rattle.ed_stepper.specs.declared.inputs.TextKind.TheVariants as kinds
use Rattle.ed_words.specs.Texts.{Text}
use Rattle.ed_run.specs.declared.settings.Settings.{Settings}
use Rattle.ed_initial.specs.Entry.{first_state}
use Rattle.ed_tapes.specs.Outcome.{Outcome, done, refusal}
use Rattle.ed_headline.specs.Sources.{OfSource}

-- a script that was played: its text, or no text if a line went back too far
abbrev pub script_outcome : Option TooFar → Text → Outcome
script_outcome None text = done text
script_outcome (Some t) text = refusal (too_far_line t.line t.done)

-- the outcome of a script that was played
abbrev pub played_outcome : Played → Outcome
played_outcome p = script_outcome p.refused p.text

-- the session before the first line, on a tape's rows
abbrev pub stand_on : Settings → List ℕ → Stand
stand_on s codes = record { start = first_state s.size codes; limit = s.limit; done = 0 }

-- the commands of a script on a cleared machine that is started on rows
abbrev pub on_rows : Settings → CommandList → List ℕ → Outcome
on_rows s commands codes = played_outcome (play 1 commands (stand_on s codes))

-- the same on the rows of a tape's text, or the refusal of the text
abbrev pub on_reading : Settings → CommandList → Reading → Outcome
on_reading s commands (rows codes) = on_rows s commands codes
on_reading s commands (no_row place byte) = refusal (text_fault_line (NoRow place byte))
on_reading s commands (open_comment place) = refusal (text_fault_line (OpenComment place))

-- on what follows the dividing line: the text of a tape, or a source, which is punched
abbrev pub OnText : Settings → CommandList → TextKind → Text → Outcome → Type 0
OnText s commands kinds.Tape text o = on_reading s commands (reading text) ≡ o
OnText s commands kinds.Source text o = OfSource s.size (λ lines. on_rows s commands (tape lines)) text o

-- a script's first bad line is reported before the text is read
abbrev pub OnInput : Settings → Input → Outcome → Type 0
OnInput s i o = ((line : ℕ) × IsFirstBadLine i.script line × (refusal (bad_command_line line) ≡ o))
    ⊎ OfScript i.script (λ commands. OnText s commands i.kind i.text o)

-- an input without a dividing line is refused, as if one were lacking after its last line
abbrev pub OfUndivided : Text → Outcome → Type 0
OfUndivided input o =
    (lines : List Text) × IsUndivided input lines × (refusal (no_text_line (length lines + 1)) ≡ o)

-- `step`
abbrev pub StepOutcome : Settings → Text → Outcome → Type 0
StepOutcome s input o = OfUndivided input o ⊎ ((i : Input) × IsDivided input i × OnInput s i o)
