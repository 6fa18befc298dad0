-- What `listing` shows is what the store holds at the entry (this project's own rules).
use Rattle.std.specs.Prelude.{◌≡◌, List, Some}
use Rattle.ed_machine.specs.Steps.{state_after}
use Rattle.ed_printer.specs.Paper.{paper}
use Rattle.ed_postmortem.specs.Codes.{printed_codes}
use Rattle.ed_lines.specs.declared.program.Line.{Line}
use Rattle.ed_headline.specs.Refusals.{IsAcceptedAs}
use Rattle.ed_link.specs.Tapes.{cost, tape}
use Rattle.ed_link.specs.Words.{linked_places}
use Rattle.ed_headline.specs.EntryState.{entry_store}
use Rattle.ed_report.specs.Listings.{listing}
use Rattle.ed_words.specs.Texts.{Text}
use Rattle.ed_run.specs.declared.settings.Settings.{Settings}
use Rattle.ed_run.specs.declared.settings.Window.{Window}
use Rattle.ed_initial.specs.Entry.{first_state}
use Rattle.ed_headline.specs.Sources.{listing_outcome, run_outcome}

-- the same settings for a run up to the entry, with a post-mortem of a window
abbrev pub up_to_entry : Settings → List Line → Window → Settings
up_to_entry s lines w = record s { limit = cost lines; post_mortem = Some w }

-- the lines of `listing` show the words that the store holds after the orders that the tape costs; with a limit equal
-- to that cost, `run` with a post-mortem prints the same words, and nothing else
pub record ListedIsLoaded (s : Settings) (lines : List Line) : Type 0 where
  pub listed : (listing_outcome lines).out
      ≡ listing (state_after (cost lines) (first_state s.size (tape lines))).store (linked_places lines)
  pub shown : (w : Window) → (run_outcome (up_to_entry s lines w) lines).out
      ≡ paper (printed_codes (entry_store lines).words w.first w.count)

-- the same for every source that is accepted
abbrev pub EachListedIsLoaded : Type 0
EachListedIsLoaded =
    (s : Settings) (source : Text) (lines : List Line) → IsAcceptedAs s.size source lines → ListedIsLoaded s lines
