-- When a device may answer that it failed: only if its count of faults rose (this project's own rule).
use Rattle.std.specs.Prelude.{ℕ, ◌+◌, ◌-◌, ◌^◌, ◌≤◌, min, Result, Ok, Err, OnErr, is_ok, if◌then◌else◌}
use Rattle.ed_io.specs.declared.stop.WriteStop.{WriteStop}
use Rattle.ed_io.specs.declared.stop.WriteStop.TheVariants.{Failed, Memory}

-- the number after n, on a counter that stays at its last value
abbrev pub next_count : ℕ → ℕ
next_count n = min (n + 1) (2 ^ 64 - 1)

-- a count is greater than it was, or is at its last value
abbrev pub Rose : ℕ → ℕ → Type 0
Rose before now = next_count before ≤ now

-- the count of faults did not fall, and an `Err` comes only if it rose
pub record HasCause {T E : Type 0} (before now : ℕ) (result : Result T E) : Type 0 where
  pub later : before ≤ now
  pub failed : OnErr result (Rose before now)

-- the count of faults after a call that raises it by 1 if it fails
abbrev pub faults_after : {T E : Type 0} → Result T E → ℕ → ℕ
faults_after result before = if is_ok result then before else next_count before

-- the sink's count of faults after a text was written, or writing it stopped: one more if a write failed, else unchanged
abbrev pub stop_faults : {T : Type 0} → Result T WriteStop → ℕ → ℕ
stop_faults (Ok t) before = before
stop_faults (Err Failed) before = next_count before
stop_faults (Err Memory) before = before
