use Rattle.ed_devices.proofs.Kit.{Vec, Global, arith, Bool, Err, inl, inr, refl, true, ℕ, ◌<◌, ◌≡◌, ◌≢◌, ◌≤◌, ◌⊎◌}
use Rattle.ed_devices.proofs.Kit.{err_from_is_err_and, device, Device, HasInput, InputStop}
use Rattle.ed_devices.specs.Stages.{input_faults}
use Rattle.ed_devices.specs.declared.devices.InputStop.TheVariants as input
use Rattle.ed_devices.proofs.devices.input_of.Goals as goal

-- a read that stopped before the limit
stopped : (reads : Bool) (source : Device) (e : InputStop) → reads ≡ true → e ≢ input.TooLong
    → source.faults_after ≡ input_faults {T = Vec ℕ Global} (Err e) source.faults_before → HasInput reads source (Err e)
stopped reads source input.Failed is short faults = (is, faults)
stopped reads source input.Memory is short faults = faults
stopped reads source input.TooLong is short faults = absurd (short refl)

-- more bytes than the limit are one more
one_more : (n : ℕ) (P : Type 0) → (n ≡ 262145) ⊎ ((n < 262145) × P) → 262144 < n → n ≡ 262145
one_more n P (inl is) more = is
one_more n P (inr few) more = absurd (omega (arith, few.0, more))

-- fewer than that end where the input does
all_read : (n : ℕ) (P : Type 0) → (n ≡ 262145) ⊎ ((n < 262145) × P) → n ≤ 262144 → P
all_read n P (inl is) few = absurd (omega (arith, is, few))
all_read n P (inr ended) few = ended.1

pub returns-then-not-reads : goal.returns-then-not-reads
returns-then-not-reads g c = rw (c.if-not-reads.true, c.new.ensures.items) (omega arith, refl, refl)

pub returns-in_err-input : goal.returns-in_err-input
returns-in_err-input g c =
    let p = err_from_is_err_and c.from_residual.result c.from_residual.ensures.1 in
    let read = c.in_err-input.ensures in
    let source = device g.S.Source.left g.S.Source.faults c.args.source.now c.read_all.new.source in
    rw (p.1, p.2) (stopped c.args.reads source c.in_err-input.field-0.0 c.if-not-reads.false read.short read.faults)

pub returns-then-len-gt-INPUT_BYTES : goal.returns-then-len-gt-INPUT_BYTES
returns-then-len-gt-INPUT_BYTES g c =
    let read = c.in_ok-input.ensures in
    let more = rw (c.len.ensures, c.in_ok-input.input.ok.0) at c.if-len-gt-INPUT_BYTES.true in
    (c.if-not-reads.false, (c.in_ok-input.input.items, one_more _ _ read.end more, read.bytes), read.faults)

pub returns : goal.returns
returns g c =
    let read = c.in_ok-input.ensures in
    let few = rw (c.len.ensures, c.in_ok-input.input.ok.0) at c.if-len-gt-INPUT_BYTES.false in
    rw c.if-not-reads.false (few, read.bytes, all_read _ _ read.end few, read.faults)
