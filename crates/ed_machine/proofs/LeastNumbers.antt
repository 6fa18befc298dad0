-- The least number below a bound for which a test holds, and the first answer of a test.
use Rattle.ed_machine.proofs.Names.{inl, inr, rules, suc, unwrap_or, zero, ◌-◌, ◌⊎◌, cases_lt, ap, arith, Bool, false}
use Rattle.ed_machine.proofs.Names.{None, Option, refl, Some, sym, true, ℕ, ◌+◌, ◌<◌, ◌∙◌, ◌≡◌, ◌≤◌}
use Rattle.std.proofs.Common.{is_some, if◌then◌else◌}
use Rattle.ed_machine.specs.Steps.{IsFirstAnswer, least}

-- the number that is found is at most the bound
pub least_below : (test : ℕ → Bool) (n : ℕ) → least test n ≤ n
unfolding least
least_below test zero = omega arith
least_below test (suc n) = search (rules, (least_below test n))

-- the number that is found passes the test if the bound does
pub least_holds : (test : ℕ → Bool) (n : ℕ) → test n ≡ true → test (least test n) ≡ true
unfolding least
least_holds test n h = search rules

-- a number that is found and fails the test is the bound
least_end : (test : ℕ → Bool) (n : ℕ) → test (least test n) ≡ false → least test n ≡ n
unfolding least
least_end test n h = search rules

-- the test fails below the number that is found
pub least_first : (test : ℕ → Bool) (n j : ℕ) → j < least test n → test j ≡ false
unfolding least
least_first test zero j h = absurd (omega arith)
least_first test (suc n) j h = by_test (test (least test n)) refl h (λ below. least_first test n j below)
  where
    by_place : (j < least test n) ⊎ (j ≡ least test n) → test (least test n) ≡ false
        → (j < least test n → test j ≡ false)
        → test j ≡ false
    by_place (inl below) e before = before below
    by_place (inr is) e before = ap test is ∙ e

    by_test : (b : Bool) → test (least test n) ≡ b → j < (if b then least test n else suc n)
        → (j < least test n → test j ≡ false) → test j ≡ false
    by_test true e h before = before h
    by_test false e h before = let k : least test n ≡ n = least_end test n e in by_place (grind arith) e before

-- ---- the first answer of a test

-- an option with a value, and one without
some_of : {A : Type 0} (o : Option A) (d : A) → is_some o ≡ true → o ≡ Some (unwrap_or o d)
some_of o d h = search rules

none_of : {A : Type 0} (o : Option A) → is_some o ≡ false → o ≡ None
none_of o h = search rules

-- the least number below n at which a test gives an answer, or n if it gives none
abbrev pub first_number : {A : Type 0} → (ℕ → Option A) → ℕ → ℕ
first_number test n = least (λ j. is_some (test j)) n

module _ {A : Type 0} {test : ℕ → Option A} where
  -- there is one first answer, at one number
  pub first_once : {j k : ℕ} {a b : A} → IsFirstAnswer test j a → IsFirstAnswer test k b → (j ≡ k) × (a ≡ b)
  first_once {j} {k} {a} {b} g h = search rules

  -- numbers without an answer are below each number with one
  pub first_within : (k n : ℕ) → ((j : ℕ) → j < k → test j ≡ None) → is_some (test n) ≡ true → k ≤ n
  first_within k n none some = search rules

  -- the first answer is at the least number with one
  pub first_found : (n : ℕ) (d : A) → is_some (test n) ≡ true
      → IsFirstAnswer test (first_number test n) (unwrap_or (test (first_number test n)) d)
  first_found n d some = record {
    now = some_of _ d (least_holds (λ j. is_some (test j)) n some);
    first = λ j h. none_of _ (least_first (λ j. is_some (test j)) n j h);
  }

-- the first answer of a test that gives none at the first k numbers, and from there on those of another
pub first_later : {A : Type 0} {test later : ℕ → Option A} {k m : ℕ} {a : A} → ((j : ℕ) → j < k → test j ≡ None)
    → ((j : ℕ) → j ≤ m → test (k + j) ≡ later j) → IsFirstAnswer later m a → IsFirstAnswer test (k + m) a
first_later {test = test} {k = k} {m = m} none same f = record {
  now = same m (omega arith) ∙ f.now;
  first = λ j h. elim (cases_lt j k) [
    | inl low ↦ none j low
    | inr high ↦
        let e : k + (j - k) ≡ j = omega arith in
        ap test (sym e) ∙ same (j - k) (omega arith) ∙ f.first (j - k) (omega arith)
  ];
}
