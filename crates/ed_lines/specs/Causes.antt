-- The numbers of the causes for which a source is refused, and the rule which of its faults is reported (this project's
-- own rule).
use Rattle.std.specs.Prelude.{ℕ, ◌≡◌, ◌⊎◌, ◌<◌, ◌≤◌}
use Rattle.ed_lines.specs.declared.fault.SourceCause.{SourceCause}
use Rattle.ed_lines.specs.declared.fault.SourceCause.TheVariants as causes

-- the number of a cause
abbrev pub number_of : SourceCause → ℕ
number_of causes.BadByte = 1
number_of causes.LongLine = 2
number_of causes.NotAStatement = 3
number_of causes.NumberRange = 4
number_of causes.TooManyLines = 5
number_of causes.LabelTwice = 6
number_of causes.LabelUnknown = 7
number_of causes.AddressRange = 8
number_of causes.OutsideSegment = 9
number_of causes.LoaderStore = 10
number_of causes.ParameterStore = 11
number_of causes.StoreEnd = 12
number_of causes.Overlap = 13
number_of causes.NoSuchRoutine = 14
number_of causes.Parameters = 15
number_of causes.Enter = 16
number_of causes.SandwichDigit = 17

-- of all faults that lines have: that of the first line that has one, and there the one with the least number
pub record IsLeastFault (Has : ℕ → SourceCause → Type 0) (number : ℕ) (cause : SourceCause) : Type 0 where
  pub is : Has number cause
  pub least : (other : ℕ) (another : SourceCause) → Has other another
      → (number < other) ⊎ ((number ≡ other) × (number_of cause ≤ number_of another))
