-- The values of code letters in a routine: those of the preset parameters, and 0 for every other one but θ and D.
use Rattle.std.proofs.Common.{◌≡◌, ◌≢◌, ◌∙◌, ℕ, ◌+◌, ◌-◌, ◌<◌, ◌≤◌, ◌⊎◌, inl, inr, refl}
use Rattle.std.proofs.Common.{ap, arith, false, nat_eq, List, length, get_or, replicate}
use Rattle.std.proofs.lemmas.Bool.{cases_eq}
use Rattle.std.proofs.lemmas.Bool.Decides.{nat_tests}
use Rattle.std.proofs.lemmas.List.{get_or-append_right, get_or-replicate, get_or_append_left, get_or_past}
use Rattle.ed_notation.specs.Fold.{value_of}
use Rattle.ed_library.specs.Images.{parameter_store}

-- a letter above D has the content of its location
content : (ps : List ℕ) (theta c : ℕ) → 19 < c
    → value_of (parameter_store ps) theta c ≡ get_or (parameter_store ps) (24 + c) 0
content ps theta c high =
    let a : nat_eq c 17 ≡ false = grind (arith, nat_tests) in
    let b : nat_eq c 18 ≡ false = grind (arith, nat_tests) in
    let d : nat_eq c 19 ≡ false = grind (arith, nat_tests) in
    rw (a, b, d) refl

-- the letter of a parameter has the word of that parameter
pub value_of_parameter : (ps : List ℕ) (theta c : ℕ) → 21 ≤ c
    → value_of (parameter_store ps) theta c ≡ get_or ps (c - 21) 0
unfolding parameter_store
value_of_parameter ps theta c low =
    let e : 24 + c - 45 ≡ c - 21 = omega arith in
    content ps theta c (omega arith) ∙ get_or-append_right (replicate 45 0) ps 45 (24 + c) 0 refl (omega arith)
    ∙ ap (λ i. get_or ps i 0) e

-- every other location is empty
empty : (ps : List ℕ) (c : ℕ) → length ps ≡ 6 → (c < 21) ⊎ (26 < c) → get_or (parameter_store ps) (24 + c) 0 ≡ 0
unfolding parameter_store
empty ps c six (inl below) = get_or_append_left (replicate 45 0) ps 0 (24 + c) (omega arith)
    ∙ get_or-replicate 45 (24 + c) 0 0 (omega arith)
empty ps c six (inr above) =
    get_or-append_right (replicate 45 0) ps 45 (24 + c) 0 refl (omega arith)
    ∙ get_or_past ps (24 + c - 45) 0 (omega arith)

-- every letter but θ, D and those of the parameters has the value 0
pub value_of_other : (ps : List ℕ) (theta c : ℕ) → length ps ≡ 6 → c ≢ 18 → c ≢ 19 → (c < 21) ⊎ (26 < c)
    → value_of (parameter_store ps) theta c ≡ 0
value_of_other ps theta c six no_theta no_d out =
    let b : nat_eq c 18 ≡ false = grind (arith, nat_tests) in
    let d : nat_eq c 19 ≡ false = grind (arith, nat_tests) in
    elim (cases_eq c 17) [
      | inl e ↦ rw e refl
      | inr n ↦ let a : nat_eq c 17 ≡ false = grind (arith, nat_tests) in rw (a, b, d) (empty ps c six out)
    ]
