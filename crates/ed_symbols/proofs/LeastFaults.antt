-- Tests in the order of the numbers of their faults answer the fault with the least number.
use Rattle.ed_symbols.proofs.Kit.{SourceCause, [], Bool, if◌then◌else◌, List, None, Option, Some}
use Rattle.ed_symbols.proofs.Kit.{ℕ, ◌+◌, ◌∷◌, ◌≡◌, ◌≤◌, number_of, rules}
use Rattle.ed_lines.proofs.Causes.{same_cause}
use Rattle.ed_symbols.proofs.Sentences.{Ties}

-- tests in the order of the numbers, from one number upwards; each says the same as its sentence
abbrev pub pick : List (Bool × SourceCause) → Option SourceCause
pick [] = None
pick (p ∷ ps) = if p.0 then Some p.1 else pick ps

abbrev pub Covers : (SourceCause → Type 0) → ℕ → List (Bool × SourceCause) → Type 0
Covers Rule n [] = (c : SourceCause) → Rule c → n ≤ number_of c → ⊥
Covers Rule n (p ∷ ps) = Ties p.0 (Rule p.1) × (number_of p.1 ≡ n) × Covers Rule (n + 1) ps

-- what an answer says of a line
abbrev pub Least : (SourceCause → Type 0) → Option SourceCause → Type 0
Least Rule None = (c : SourceCause) → Rule c → ⊥
Least Rule (Some c) = Rule c × ((other : SourceCause) → Rule other → number_of c ≤ number_of other)

pub Least-picks : (Rule : SourceCause → Type 0) (n : ℕ) (ps : List (Bool × SourceCause)) → Covers Rule n ps
    → ((c : SourceCause) → Rule c → n ≤ number_of c) → Least Rule (pick ps)
Least-picks Rule n [] cover from = λ c h. cover c h (from c h)
Least-picks Rule n ((t, c) ∷ ps) cover from = search (rules, same_cause, Least-picks Rule (n + 1) ps cover.2)
