-- The verdict on a source: it is accepted with its lines, or refused at one line for one fault. Its faults of form come
-- before those of meaning (this project's own rule).
use Rattle.std.specs.Prelude.{◌≡◌, ◌⊎◌, ℕ, Bool, List}
use Rattle.ed_words.specs.declared.size.Size.{Size}
use Rattle.ed_words.specs.Texts.{Text}
use Rattle.ed_syntax.specs.Sources.{IsFormFault, IsProgram}
use Rattle.ed_lines.specs.declared.program.Line.{Line}
use Rattle.ed_lines.specs.declared.fault.SourceCause.{SourceCause}
use Rattle.ed_link.specs.Faults.{HasNoFault, IsMeaningFault}

-- the source is accepted on a machine of this size: it says these lines, and they have no fault of meaning
pub record IsAcceptedAs (z : Size) (text : Text) (lines : List Line) : Type 0 where
  pub two : Bool
  pub says : IsProgram text two lines
  pub faultless : HasNoFault z lines

-- the source is refused at this line for this fault: one of form, or one of meaning if no line has a fault of form
pub data IsRefused (z : Size) (text : Text) : ℕ → SourceCause → Type 0 where
  for_form : {k : ℕ} {c : SourceCause} → IsFormFault text k c → IsRefused z text k c
  for_meaning : {two : Bool} {lines : List Line} {k : ℕ} {c : SourceCause} → IsProgram text two lines
      → IsMeaningFault z lines k c → IsRefused z text k c

-- the source is accepted with some lines, or refused at some line
abbrev pub IsAcceptedOrRefused : Size → Text → Type 0
IsAcceptedOrRefused z text = ((lines : List Line) × IsAcceptedAs z text lines)
    ⊎ ((k : ℕ) × (c : SourceCause) × IsRefused z text k c)

-- each source is accepted with one list of lines or refused at one line for one fault, and never both
pub record EachSourceHasOneAnswer : Type 0 where
  pub every : (z : Size) (text : Text) → IsAcceptedOrRefused z text
  pub one_program : (z : Size) (text : Text) (lines others : List Line) → IsAcceptedAs z text lines
      → IsAcceptedAs z text others → lines ≡ others
  pub one_fault : (z : Size) (text : Text) (k other : ℕ) (c another : SourceCause) → IsRefused z text k c
      → IsRefused z text other another → (k ≡ other) × (c ≡ another)
  pub never_both : (z : Size) (text : Text) (lines : List Line) (k : ℕ) (c : SourceCause) → IsAcceptedAs z text lines
      → IsRefused z text k c → ⊥
