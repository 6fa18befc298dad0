-- What holds on the smaller store carries over to the larger one (this project's own rule).
use Rattle.std.specs.Prelude.{ℕ, List}
use Rattle.ed_words.specs.Texts.{Text}
use Rattle.ed_words.specs.declared.size.Size.TheVariants.{Small, Full}
use Rattle.ed_run.specs.declared.settings.Settings.{Settings}
use Rattle.ed_notation.specs.Fold.{NotationState}
use Rattle.ed_notation.specs.Faults.{WellFormed}
use Rattle.ed_lines.specs.declared.program.Line.{Line}
use Rattle.ed_headline.specs.BothSizes.{with_store}
use Rattle.ed_tapes.specs.Outcome.{done}
use Rattle.ed_headline.specs.Refusals.{IsAcceptedAs}
use Rattle.ed_headline.specs.Sources.{OfSource, listing_outcome, punch_outcome}
use Rattle.ed_tapes.specs.Tapes.{IsChecked}

-- rows that are well formed for 512 locations are so for 1,024, from every store and every state of the notation, and
-- `check-tape` reports the same entry, cost and rows. A source that is accepted for 512 is accepted for 1,024 with the
-- same lines, and `punch` and `listing` write the same.
pub record EachSmallIsFull : Type 0 where
  pub well : (words : List ℕ) (start : NotationState) (rows : List ℕ) → WellFormed Small words start rows
      → WellFormed Full words start rows
  pub tapes : (s : Settings) (rows : List ℕ) (report : Text) → IsChecked (with_store Small s) rows (done report)
      → IsChecked (with_store Full s) rows (done report)
  pub sources : (text : Text) (lines : List Line) → IsAcceptedAs Small text lines → IsAcceptedAs Full text lines
  pub punched : (text tape : Text) → OfSource Small punch_outcome text (done tape)
      → OfSource Full punch_outcome text (done tape)
  pub listed : (text words : Text) → OfSource Small listing_outcome text (done words)
      → OfSource Full listing_outcome text (done words)
