-- Each answer to the text of a tape gives it one outcome.
use Rattle.ed_tapes.proofs.Kit.{no_row, open_comment, Reading, Text, arith, inl, inr, length, List, refl, sym, ℕ, ◌<◌}
use Rattle.ed_tapes.proofs.Kit.{◌∙◌, ◌≡◌, ◌≤◌, ◌⊎◌, reading, rows, of_rows, OfReading, Outcome}
use Rattle.ed_tapes.specs.Answer.{HasOneOutcome, WithinLimit, known}
use Rattle.ed_tapes.specs.Outcome.{too_long_outcome}
use Rattle.ed_tapes.specs.declared.input.TheConstants.{INPUT_BYTES}
use Rattle.ed_tapes.proofs.Replies.{HasOne, text_outcome}

pub known_once : (due : Outcome) → HasOneOutcome (known due)
known_once due = record { some = λ input. (due, refl); once = λ input o other p q. sym p ∙ q }

-- ---- the text of a tape

pub text_once : (answers : List ℕ → Outcome → Type 0) (r : Reading) (o other : Outcome) → HasOne answers
    → OfReading answers r o
    → OfReading answers r other → o ≡ other
text_once answers (rows codes) o other one p q = one.once codes o other p q
text_once answers (no_row place byte) o other one p q = sym p ∙ q
text_once answers (open_comment place) o other one p q = sym p ∙ q

-- an input that has an outcome has one too if inputs may be too long
pub some_within : (answers : Text → Outcome → Type 0) (input : Text) (o : Outcome) → answers input o
    → (o : Outcome) × WithinLimit answers input o
some_within answers input o a =
    let split : (length input ≤ INPUT_BYTES) ⊎ (INPUT_BYTES < length input) = grind arith in
    elim split [ inl few ↦ (o, inl (few, a)) | inr many ↦ (too_long_outcome, inr (many, refl)) ]

pub within_once : (answers : Text → Outcome → Type 0) (input : Text) (o other : Outcome)
    → (answers input o → answers input other → o ≡ other) → WithinLimit answers input o
    → WithinLimit answers input other → o ≡ other
within_once answers input o other once (inl p) (inl q) = once p.1 q.1
within_once answers input o other once (inl p) (inr q) = absurd (omega (arith, p.0, q.0))
within_once answers input o other once (inr p) (inl q) = absurd (omega (arith, p.0, q.0))
within_once answers input o other once (inr p) (inr q) = sym p.1 ∙ q.1

pub rows_once : (answers : List ℕ → Outcome → Type 0) → HasOne answers → HasOneOutcome (of_rows answers)
rows_once answers one = record {
  some = λ input.
      let t = text_outcome answers one (reading input) in
      some_within (λ input. OfReading answers (reading input)) input t.0 t.1;
  once = λ input o other.
      within_once (λ input. OfReading answers (reading input)) input o other
      (text_once answers (reading input) o other one);
}
