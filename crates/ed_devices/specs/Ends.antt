-- The contract of `edsac`: what a run of the program does to its source and its two sinks, even if devices fail (this
-- project's own rules).
use Rattle.std.specs.Prelude.{◌≡◌, ◌≢◌, ◌⊎◌, ◌+◌, ℕ, true, [], drop, Option, None, Some}
use Rattle.ed_words.specs.Texts.{Text}
use Rattle.ed_tapes.specs.declared.input.TheConstants.{INPUT_BYTES}
use Rattle.ed_tapes.specs.Outcome.{Outcome, read_fault, no_memory}
use Rattle.ed_devices.specs.Devices.{Device, FailedOnce, NeverFailed, Wrote, WrotePart}
use Rattle.ed_tapes.specs.Answer.{Answer, known, of_made, of_input, reads_input, WithinLimit}

-- no call of any device failed
abbrev pub NoneFailed : Device → Device → Device → Type 0
NoneFailed source out note = NeverFailed source × NeverFailed out × NeverFailed note

-- the source has lost its first n bytes, or all if it had fewer, if it reports its bytes
abbrev pub Lost : Device → ℕ → Type 0
Lost d n = (bytes : Text) → d.before ≡ Some bytes → d.after ≡ Some (drop n bytes)

-- the most bytes that are read: none, or one more than an input may have
abbrev pub most_read : Answer → ℕ
most_read (known o) = 0
most_read (of_made answers) = 0
most_read (of_input answers) = INPUT_BYTES + 1

-- this may be the input of a source that reports these bytes; any text may, if it reports none
abbrev pub MayBe : Option Text → Text → Type 0
MayBe None input = Unit {0}
MayBe (Some bytes) input = bytes ≡ input

-- this holds of the outcome that is due: the known one, one that is allowed, or that of one input, which is the
-- source's bytes if it reports them
abbrev pub ForDue : Answer → Device → (Outcome → Type 0) → Type 0
ForDue (known due) source P = P due
ForDue (of_made answers) source P = (o : Outcome) × answers o × P o
ForDue (of_input answers) source P =
    (input : Text) × MayBe source.before input × (o : Outcome) × WithinLimit answers input o × P o

-- the sink has gained the first bytes of what is due on `out`
abbrev pub WrotePartDue : Answer → Device → Device → Type 0
WrotePartDue answer source out = ForDue answer source (λ o. WrotePart out o.out)

-- one write on `out` failed, no other call did, and nothing was written on `note`
pub record OutFailed (answer : Answer) (source out note : Device) : Type 0 where
  pub failed : FailedOnce out
  pub source_fine : NeverFailed source
  pub note_fine : NeverFailed note
  pub part : WrotePartDue answer source out
  pub nothing : Wrote note []

-- what is on `out` before a line on `note`, and which line that is: all that is due, and its line; nothing, and the
-- line of a read that failed; or a part of what is due, and the line of no memory
abbrev pub OutBeforeNote : Answer → Device → Device → Device → Type 0
OutBeforeNote answer source out note =
    (NeverFailed source × ForDue answer source (λ o. Wrote out o.out × WrotePart note o.note))
    ⊎ (((reads_input answer ≡ true) × FailedOnce source × Wrote out [] × WrotePart note read_fault)
    ⊎ (NeverFailed source × WrotePartDue answer source out × WrotePart note no_memory))

-- one write on `note` failed, and none on `out`
pub record NoteFailed (answer : Answer) (source out note : Device) : Type 0 where
  pub failed : FailedOnce note
  pub out_fine : NeverFailed out
  pub part : OutBeforeNote answer source out note

-- a program with this answer ended with this status
pub record ProgramEnded (answer : Answer) (source out note : Device) (status : ℕ) : Type 0 where
  -- no device failed and memory was found: exactly the outcome that is due
  pub finished : status ≢ 8 → status ≢ 9 → status ≢ 10
      → NoneFailed source out note × Lost source (most_read answer)
      × ForDue answer source (λ o. (status ≡ o.status) × Wrote out o.out × Wrote note o.note)
  -- 8: one read failed and no write; nothing is on `out`, and the line of a read fault is on `note`
  pub read : status ≡ 8 → (reads_input answer ≡ true) × FailedOnce source × NeverFailed out × NeverFailed note
      × Wrote out [] × Wrote note read_fault
  -- 9: one write failed, on one of the two sinks
  pub written : status ≡ 9 → OutFailed answer source out note ⊎ NoteFailed answer source out note
  -- 10: no memory was found and no call failed; a part of what is due is on `out`, and the line of no memory on `note`
  pub memory : status ≡ 10
      → NoneFailed source out note × WrotePartDue answer source out × Wrote note no_memory
