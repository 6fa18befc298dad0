-- A device before and after a call, and what it means that a text was written on it (this project's own rules).
use Rattle.std.specs.Prelude.{◌≡◌, ◌≢◌, ℕ, Option}
use Rattle.ed_io.specs.Bytes.{Gains, GainsPart}
use Rattle.ed_io.specs.Causes.{next_count}
use Rattle.ed_words.specs.Texts.{Text}

-- a device before and after the call: the bytes that it reports, if it reports them, and its count of faults
pub record Device : Type 0 where
  pub before : Option Text
  pub after : Option Text
  pub faults_before : ℕ
  pub faults_after : ℕ

-- a device, as the bytes that it reports and the faults that it counts
abbrev pub device : {D : Type 0} → (D → Option Text) → (D → ℕ) → D → D → Device
device bytes faults old new = record {
  before = bytes old;
  after = bytes new;
  faults_before = faults old;
  faults_after = faults new;
}

-- no call of the device failed
abbrev pub NeverFailed : Device → Type 0
NeverFailed d = d.faults_after ≡ d.faults_before

-- exactly one call of the device failed: the count of faults rose by 1, or is at its last value. No call came after it,
-- since that could have failed too.
abbrev pub FailedOnce : Device → Type 0
FailedOnce d = d.faults_after ≡ next_count d.faults_before

-- the sink has gained exactly this text, if it reports its bytes
abbrev pub Wrote : Device → Text → Type 0
Wrote d text = Gains d.before d.after text

-- the sink has gained the first bytes of this text
abbrev pub WrotePart : Device → Text → Type 0
WrotePart d text = GainsPart d.before d.after text

-- a line was written on a sink, and this is the wanted status; or the write failed, and the status is 9
pub record WritesLastLine (note : Device) (line : Text) (wanted status : ℕ) : Type 0 where
  pub done : status ≢ 9 → (status ≡ wanted) × Wrote note line × NeverFailed note
  pub part : status ≡ 9 → FailedOnce note × WrotePart note line
