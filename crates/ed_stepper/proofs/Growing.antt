-- One more letter of a text that grows.
use Rattle.ed_stepper.proofs.Kit.{append-nil, ◌%◌, State, progress, state_after, end_at, [], ap, append_assoc, arith}
use Rattle.ed_stepper.proofs.Kit.{Bool, Err, false, length, length-append, List, None, Ok, Option, refl, subst, suc}
use Rattle.ed_stepper.proofs.Kit.{sym, true, zero, ℕ, ◌++◌, ◌+◌, ◌-◌, ◌<◌, ◌∙◌, ◌∷◌, ◌≡◌, nat_tests, Gains, GainsPart}
use Rattle.ed_stepper.proofs.Kit.{Failed, gains_more, is_full, functions_count, next_functions, no_functions}
use Rattle.ed_stepper.proofs.Kit.{BreaksTrace, Lines, orders_in_full_lines, traced_letters}
use Rattle.ed_io.proofs.Calls.{gains_none}
use Rattle.ed_report.specs.Traces.{line_end}
use Rattle.ed_report.proofs.Letters.{letters_more}
use Rattle.ed_stepper.specs.Private.Growth.{Puts, letter}
use Rattle.std.proofs.Common.{rules}

-- the first bytes of a text are the first bytes of a longer one
pub part_of_longer : (before after : Option (List ℕ)) (text longer more : List ℕ) → longer ≡ text ++ more
    → GainsPart before after text → GainsPart before after longer
part_of_longer before after text longer more is g = search (rules, append_assoc)

-- nothing is written yet
pub lines_first : (before : Option (List ℕ)) (held : List ℕ) (s : State) → held ≡ [] → Lines 0 s before before held
lines_first before held s is = search (rules, no_functions, gains_none)

next_traced : (k : ℕ) (s : State)
    → traced_letters (k + 1) s ≡ traced_letters k s ++ letter (state_after k s) ∷ line_end (is_full (k + 1))
next_traced k s = search (rules, functions_count, next_functions, letters_more)

-- one more letter
pub grows : (k : ℕ) (s m : State) (l : ℕ) (full : Bool) → m ≡ state_after k s → l ≡ letter m → full ≡ is_full (k + 1)
    → traced_letters k s ++ l ∷ line_end full ≡ traced_letters (k + 1) s
grows k s m l full is at ends =
    (λ i. traced_letters k s ++ (at ∙ ap letter is) i ∷ line_end (ends i)) ∙ sym (next_traced k s)

-- the letters of the first orders are a prefix of those of more orders
pub more_traced : (j i : ℕ) (s : State) → (rest : List ℕ) × (traced_letters (j + i) s ≡ traced_letters j s ++ rest)
more_traced j zero s = search (rules, append-nil)
more_traced j (suc i) s =
    let e : j + suc i ≡ j + i + 1 = omega arith in
    let r = more_traced j i s in
    let piece = letter (state_after (j + i) s) ∷ line_end (is_full (j + i + 1)) in (
      r.0 ++ piece,
      ap (λ k. traced_letters k s) e ∙ next_traced (j + i) s ∙ ap (λ t. t ++ piece) r.1
          ∙ append_assoc (traced_letters j s) r.0 piece,
    )

-- whether the line is full
lined_full : (k : ℕ) → is_full (k + 1) ≡ true
    → (orders_in_full_lines (k + 1) ≡ k + 1) × ((k + 1) % 50 ≡ 0) × (orders_in_full_lines k ≡ k + 1 - 50)
lined_full k e =
    let h : (k + 1) % 50 ≡ 0 = grind (arith, nat_tests) in (grind arith, h, grind arith)

lined_open : (k : ℕ) → is_full (k + 1) ≡ false
    → (orders_in_full_lines (k + 1) ≡ orders_in_full_lines k) × ((k + 1) % 50 ≡ k % 50 + 1)
lined_open k e = search rules

-- the letter of one order more
module _ {k : ℕ} {s m : State} {before now : Option (List ℕ)} {held : List ℕ} {l : ℕ}
    (lines : Lines k s before now held)
    (is : m ≡ state_after k s) (at : l ≡ letter m) where
  more : (full : Bool) → full ≡ is_full (k + 1)
      → traced_letters (k + 1) s ≡ traced_letters (orders_in_full_lines k) s ++ (held ++ l ∷ line_end full)
  more full ends =
      sym (grows k s m l full is at ends) ∙ ap (λ t. t ++ l ∷ line_end full) lines.whole
      ∙ append_assoc (traced_letters (orders_in_full_lines k) s) held (l ∷ line_end full)

  -- it was put on the line
  pub next_lines : {after : Option (List ℕ)} {left : List ℕ} (u : Unit {0})
      → Puts (is_full (k + 1)) (Ok u) now after held l left → Lines (k + 1) s before after left
  next_lines {after} {left} u = by_test (is_full (k + 1)) refl
    where
      by_test : (full : Bool) → full ≡ is_full (k + 1) → Puts full (Ok u) now after held l left
          → Lines (k + 1) s before after left
      by_test true e p =
          let n = lined_full k (sym e) in
          let all : traced_letters (orders_in_full_lines (k + 1)) s
          ≡ traced_letters (k + 1) s = ap (λ x. traced_letters x s) n.0 in
          record {
            gains = subst (λ t. Gains before after t) (sym (all ∙ more true e))
                (gains_more before now after (traced_letters (orders_in_full_lines k) s)
                (held ++ l ∷ 10 ∷ []) lines.gains p.0);
            whole = sym all ∙ sym (append-nil (traced_letters (orders_in_full_lines (k + 1)) s))
                ∙ ap (λ t. traced_letters (orders_in_full_lines (k + 1)) s ++ t) (sym p.1);
            few = ap length p.1 ∙ sym n.1;
          }
      by_test false e p =
          let n = lined_open k (sym e) in
          let same : traced_letters (orders_in_full_lines (k + 1)) s
          ≡ traced_letters (orders_in_full_lines k) s = ap (λ x. traced_letters x s) n.0 in
          let count : length left ≡ length held + 1 = ap length p.1 ∙ length-append held (l ∷ []) in
          record {
            gains = subst (λ t. Gains before after t) (sym same)
                (subst (λ (b : Option (List ℕ)). Gains before b (traced_letters (orders_in_full_lines k) s))
                (sym p.0) lines.gains);
            whole = more false e ∙ ap (λ t. traced_letters (orders_in_full_lines k) s ++ t) (sym p.1)
                ∙ ap (λ t. t ++ left) (sym same);
            few = omega (arith, count, n.1, lines.few);
          }

  -- the line was then full, and its write failed
  pub breaks_line : {limit resumes : ℕ} {last : State} {after : Option (List ℕ)} (left : List ℕ) (e : Failed)
      → Puts (is_full (k + 1)) (Err e) now after held l left
      → ((j : ℕ) → j < k + 1 → end_at limit resumes limit j (progress j s) ≡ None)
      → last ≡ state_after (k + 1) s → BreaksTrace limit resumes s last before after
  breaks_line {limit} {resumes} {last} {after} left e p first state = by_test (is_full (k + 1)) refl p
    where
      by_test : (full : Bool) → full ≡ is_full (k + 1) → Puts full (Err e) now after held l left
          → BreaksTrace limit resumes s last before after
      by_test false same p = absurd p
      by_test true same p =
          let n = lined_full k (sym same) in
          let front : traced_letters (orders_in_full_lines k) s
          ≡ traced_letters (k + 1 - 50) s = ap (λ x. traced_letters x s) n.2 in
          record {
            orders = k + 1;
            some = omega arith;
            full = n.1;
            first = first;
            state_is = state;
            part = p.part;
            rest = p.rest;
            line = more true same ∙ ap (λ t. t ++ (held ++ l ∷ 10 ∷ [])) front
                ∙ ap (λ t. traced_letters (k + 1 - 50) s ++ t) p.whole;
            gains = subst (λ t. Gains before after (t ++ p.part)) front
                (gains_more before now after (traced_letters (orders_in_full_lines k) s) p.part lines.gains p.gains);
          }
