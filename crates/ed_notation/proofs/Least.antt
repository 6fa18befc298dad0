-- The least rule that a row breaks.
use Rattle.ed_notation.proofs.Kit.{[], Bool, false, length, List, lit<, lit≤, refl, Some, true, true≢false, ℕ, ◌+◌, ◌-◌}
use Rattle.ed_notation.proofs.Kit.{◌<◌, ◌∷◌, ◌≡◌, ◌≤◌, ap, arith, get_or, sym, ◌∙◌, cause_number, TapeCause, EndOfTape}
use Rattle.ed_notation.proofs.Rows.{first_of, causes}

-- the cause of a number
abbrev named : ℕ → TapeCause
named n = get_or causes (n - 1) EndOfTape

named_is : (c : TapeCause) → named (cause_number c) ≡ c
named_is EndOfTape = refl
named_is c = refl

-- causes with the same number are equal
pub cause_number-same : (a b : TapeCause) → cause_number a ≡ cause_number b → a ≡ b
cause_number-same a b e = sym (named_is a) ∙ ap named e ∙ named_is b

is_number : (c : TapeCause) → (1 ≤ cause_number c) × (cause_number c < 11)
is_number EndOfTape = (lit≤ tt, lit< tt)
is_number c = (lit≤ tt, lit< tt)

pub one_least : (c : TapeCause) → 1 ≤ cause_number c
one_least c = (is_number c).0

-- the numbers of the list ascend from n
abbrev AreNumbered : ℕ → List TapeCause → Type 0
AreNumbered n [] = Unit {0}
AreNumbered n (c ∷ cs) = (cause_number c ≡ n) × AreNumbered (n + 1) cs

-- the first cause for which the test is true has a number that is no greater
pub record Found (f : TapeCause → Bool) (cs : List TapeCause) (k : TapeCause) : Type 0 where
  pub found : TapeCause
  pub is : first_of f cs ≡ Some found
  pub least : cause_number found ≤ cause_number k

split : (f : TapeCause → Bool) (c : TapeCause) (cs : List TapeCause) (k : TapeCause) (x : Bool) → f c ≡ x
    → (x ≡ true → cause_number c ≤ cause_number k) → (x ≡ false → Found f cs k) → Found f (c ∷ cs) k
split f c cs k true e g h = record { found = c; is = rw e refl; least = g refl }
split f c cs k false e g h = let r = h refl in record { found = r.found; is = rw e r.is; least = r.least }

least_in : (f : TapeCause → Bool) (cs : List TapeCause) (n : ℕ) (k : TapeCause) → AreNumbered n cs → n ≤ cause_number k
    → cause_number k < n + length cs → f k ≡ true → Found f cs k
least_in f [] n k ns l m h = absurd (omega (arith, l, m))
least_in f (c ∷ cs) n k ns l m h =
    split f c cs k (f c) refl (λ e. omega (arith, ns.0, l)) (λ e.
    let differs : cause_number c ≡ cause_number k
    → ⊥ = λ q. true≢false (sym (ap f (cause_number-same c k q) ∙ h) ∙ e) in
    least_in f cs (n + 1) k ns.1 (omega (arith, ns.0, l, differs)) (omega (arith, m)) h)

pub least_of : (f : TapeCause → Bool) (k : TapeCause) → f k ≡ true → Found f causes k
least_of f k h =
    let numbered : AreNumbered 1 causes =
    (refl, (refl, (refl, (refl, (refl, (refl, (refl, (refl, (refl, (refl, tt)))))))))) in
    least_in f causes 1 k numbered (is_number k).0 (is_number k).1 h

found_if : (f : TapeCause → Bool) (c k : TapeCause) (cs : List TapeCause) (x : Bool) → f c ≡ x
    → (first_of f cs ≡ Some k → f k ≡ true) → first_of f (c ∷ cs) ≡ Some k → f k ≡ true
found_if f c k cs true e ih h = let q : Some c ≡ Some k = (rw e at h) in let s : c ≡ k = cc in rw s at e
found_if f c k cs false e ih h = ih (rw e at h)

-- and the test is true for it
pub found_is : (f : TapeCause → Bool) (cs : List TapeCause) (k : TapeCause) → first_of f cs ≡ Some k → f k ≡ true
found_is f [] k h = cc
found_is f (c ∷ cs) k h = found_if f c k cs (f c) refl (found_is f cs k) h
