-- How `tape` runs a tape in parts (this project's own rule): its run ends as the parts do, and prints what their
-- programs print.
use Rattle.std.specs.Prelude.{◌≡◌, ℕ, ◌<◌, ◌≤◌, List, None, length, take}
use Rattle.ed_codes.specs.Reading.{reading, rows}
use Rattle.ed_machine.specs.declared.ending.Ending.{Ending}
use Rattle.ed_machine.specs.declared.ending.Ending.TheVariants.{PaperFull}
use Rattle.ed_printer.specs.Paper.{paper}
use Rattle.ed_interlude.specs.Parts.{IsReportOfTape, PartsReport, programs_printed}
use Rattle.ed_interlude.specs.declared.tape.PartsEnd.TheVariants.{Ended}
use Rattle.ed_words.specs.Texts.{Text}
use Rattle.ed_run.specs.declared.settings.Settings.{Settings}
use Rattle.ed_initial.specs.Entry.{first_state}
use Rattle.ed_tapes.specs.Tapes.{tape_outcome}
use Rattle.ed_streams.specs.Parts.{report_outcome}
use Rattle.ed_tapes.specs.Runs.{paper_room, run_of, status_of}

-- the same settings for a run that is never resumed, without a post-mortem
abbrev pub run_once : Settings → Settings
run_once s = record s { resumes = 0; post_mortem = None }

-- rows of a text for which `parts` reports that they end as a run does, no part with a fault
pub record EndsInParts (s : Settings) (codes : List ℕ) : Type 0 where
  pub text : Text
  pub read : reading text ≡ rows codes
  pub told : PartsReport
  pub tells : IsReportOfTape s.limit (first_state s.size codes) told
  pub ending : Ending
  pub end_is : told.end ≡ Ended ending

-- what their programs print, part after part
abbrev pub printed_by : {s : Settings} {codes : List ℕ} → EndsInParts s codes → List ℕ
printed_by p = programs_printed p.tells

-- the note and the status of `tape` are those of `parts`, and its run ends in the same state. It prints what the
-- programs print and nothing else: the loads print nothing.
pub record PartsAreRun (s : Settings) (codes : List ℕ) (t : PartsReport) (printed : List ℕ) : Type 0 where
  pub note_is : (tape_outcome s codes).note ≡ (report_outcome t).note
  pub status_is : (tape_outcome s codes).status ≡ (report_outcome t).status
  pub state_is : (run_of s codes).state ≡ t.last
  pub out_is : (tape_outcome s codes).out ≡ paper printed

-- the paper of `tape` is full before the programs have printed all: it has the first codes of them
pub record PartsFillPaper (s : Settings) (codes : List ℕ) (printed : List ℕ) : Type 0 where
  pub status_is : (tape_outcome s codes).status ≡ status_of PaperFull
  pub out_is : (tape_outcome s codes).out ≡ paper (take paper_room printed)

-- the first holds if the paper has room for all that the programs print, the second if it has not
pub record EachTapeInPartsIsRun : Type 0 where
  pub runs : (s : Settings) (codes : List ℕ) (p : EndsInParts s codes) → length (printed_by p) ≤ paper_room
      → PartsAreRun (run_once s) codes p.told (printed_by p)
  pub fills : (s : Settings) (codes : List ℕ) (p : EndsInParts s codes) → paper_room < length (printed_by p)
      → PartsFillPaper (run_once s) codes (printed_by p)
