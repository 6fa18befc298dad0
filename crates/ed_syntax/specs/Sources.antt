-- Which lines a source has and what it says, or what its fault of form is (this project's own rule).
use Rattle.std.specs.Prelude.{ℕ, ◌≡◌, ◌+◌, ◌≤◌, ◌<◌, Bool, true, false, List, [], ◌∷◌, ◌++◌, codes, length}
use Rattle.std.specs.Prelude.{◌⊎◌}
use Rattle.std.specs.List.{list_all}
use Rattle.ed_words.specs.Texts.{Text}
use Rattle.ed_words.specs.Decimals.{value}
use Rattle.ed_syntax.specs.Lines.{HasLines}
use Rattle.ed_syntax.specs.Parts.{run, is_number, is_line_byte}
use Rattle.ed_syntax.specs.Forms.{HasLineParts, SpellsLine, IsNoStatement, HasNumberOutOfRange}
use Rattle.ed_lines.specs.Causes.{IsLeastFault}
use Rattle.ed_syntax.specs.declared.form.Form.{Form}
use Rattle.ed_lines.specs.declared.program.Line.{Line}
use Rattle.ed_lines.specs.declared.fault.SourceCause.{SourceCause}
use Rattle.ed_lines.specs.declared.fault.SourceFault.{SourceFault}
use Rattle.ed_lines.specs.declared.fault.SourceFault.TheVariants.{At, Memory}
use Rattle.ed_lines.specs.declared.fault.SourceCause.TheVariants.{BadByte, LongLine, NotAStatement}
use Rattle.ed_lines.specs.declared.fault.SourceCause.TheVariants.{NumberRange, TooManyLines}

-- ---- one line

-- a line of at most 120 bytes, each a tab or from 32 to 126
pub record IsPlain (line : Text) : Type 0 where
  pub bytes : list_all is_line_byte line ≡ true
  pub short : length line ≤ 120

-- the line with the number k says this
pub record LineSays (two : Bool) (k : ℕ) (line : Text) (f : Form) : Type 0 where
  pub plain : IsPlain line
  pub spells : SpellsLine two k line f true

-- The line with the number k has this fault. No sentence depends on another one. S1 to S4 are faults of the first 2,000
-- lines; line 2001 has the fault S5, and later lines have none.
abbrev pub LineHasFault : Bool → ℕ → Text → SourceCause → Type 0
LineHasFault two k line BadByte = (k ≤ 2000) × (list_all is_line_byte line ≡ false)
LineHasFault two k line LongLine = (k ≤ 2000) × (120 < length line)
LineHasFault two k line NotAStatement = (k ≤ 2000) × IsNoStatement two k line
LineHasFault two k line NumberRange = (k ≤ 2000) × HasNumberOutOfRange two k line
LineHasFault two k line TooManyLines = k ≡ 2001
LineHasFault two k line cause = ⊥

-- ---- a source

-- the line has the form `version 2`
pub record IsVersionTwo (line : Text) : Type 0 where
  pub n : Text
  pub number : is_number n ≡ true
  pub value_is : value n ≡ 2
  pub parts : HasLineParts line (run (codes "version") ∷ run n ∷ [])

-- a source is of version 2 if and only if its first line says so
abbrev pub IsOfVersion : Bool → List Text → Type 0
IsOfVersion two [] = two ≡ false
IsOfVersion true (line ∷ lines) = IsVersionTwo line
IsOfVersion false (line ∷ lines) = IsVersionTwo line → ⊥

-- the lines from the number k upwards say this
pub data LinesSay (two : Bool) : ℕ → List Text → List Line → Type 0 where
  no_more : (k : ℕ) → LinesSay two k [] []
  and_more : (k : ℕ) (line : Text) (lines : List Text) (f : Form) (said : List Line) → LineSays two k line f
      → LinesSay two (k + 1) lines said
      → LinesSay two k (line ∷ lines) (record { number = k; label = f.label; statement = f.statement } ∷ said)

-- the source is of this version and says these lines
pub record IsProgram (text : Text) (two : Bool) (said : List Line) : Type 0 where
  pub lines : List Text
  pub has_lines : HasLines text lines
  pub few : length lines ≤ 2000
  pub version : IsOfVersion two lines
  pub says : LinesSay two 1 lines said

-- the line of the source with this number, counted from 1, has this fault
pub record SourceHasFormFault (text : Text) (number : ℕ) (cause : SourceCause) : Type 0 where
  pub two : Bool
  pub before : List Text
  pub line : Text
  pub after : List Text
  pub has_lines : HasLines text (before ++ line ∷ after)
  pub version : IsOfVersion two (before ++ line ∷ after)
  pub number_is : number ≡ length before + 1
  pub faulty : LineHasFault two number line cause

-- the fault of form of a source
abbrev pub IsFormFault : Text → ℕ → SourceCause → Type 0
IsFormFault text = IsLeastFault (SourceHasFormFault text)

-- if an answer is a fault of form, it is the source's
abbrev pub HasFormFault : Text → SourceFault → Type 0
HasFormFault text (At number cause) = IsFormFault text number cause
HasFormFault text Memory = Unit {0}

-- ---- the law of sources

-- the source says some lines, or has a fault of form
abbrev pub IsProgramOrFault : Text → Type 0
IsProgramOrFault text = ((two : Bool) × (said : List Line) × IsProgram text two said)
    ⊎ ((number : ℕ) × (cause : SourceCause) × IsFormFault text number cause)

-- Every source has one version and says one list of lines, or a line of it has a fault of form, and never both. Then one
-- fault is the source's. No line says two things.
pub record HasOneMeaning : Type 0 where
  pub one_form : (two : Bool) (k : ℕ) (line : Text) (f g : Form) → LineSays two k line f → LineSays two k line g → f ≡ g
  pub every : (text : Text) → IsProgramOrFault text
  pub one_version : (text : Text) (two also : Bool) (said others : List Line) → IsProgram text two said
      → IsProgram text also others → two ≡ also
  pub one_program : (text : Text) (two also : Bool) (said others : List Line) → IsProgram text two said
      → IsProgram text also others → said ≡ others
  pub no_fault : (text : Text) (two : Bool) (said : List Line) (number : ℕ) (cause : SourceCause)
      → IsProgram text two said → SourceHasFormFault text number cause → ⊥
  pub one_fault : (text : Text) (number other : ℕ) (cause another : SourceCause) → IsFormFault text number cause
      → IsFormFault text other another → (number ≡ other) × (cause ≡ another)
