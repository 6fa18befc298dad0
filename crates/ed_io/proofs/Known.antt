-- What std's clauses on known bytes give if all values of a type report bytes, or none does.
use Rattle.ed_io.proofs.Kit.{[], ap, Bool, false, if◌then◌else◌, length, List, nat_lt, None, Option, Some, sym, take}
use Rattle.ed_io.proofs.Kit.{true, ℕ, ◌++◌, ◌<◌, ◌∙◌, ◌≡◌, Gains, IsAtEnd, Loses}
use Rattle.std.specs.Io.KnownBytes.{Appends, Consumes, Keeps, IsAtEnd as IsKnownEnd}
use Rattle.std.proofs.lemmas.Bool.{lt-ltb}
use Rattle.ed_io.specs.Streams.{Alike, unless_failed}

-- a read that gave k bytes
pub read_known : (a b : Option (List ℕ)) (k : ℕ) (piece : List ℕ) → Alike a b → Consumes a b (take k piece)
    → (k ≡ 0 → 0 < length piece → IsKnownEnd b)
    → Loses a b (take k piece) × (k ≡ 0 → 0 < length piece → IsAtEnd a)
read_known None None k piece s p e = (tt, λ _ _. tt)
read_known None (Some y) k piece s p e = absurd s
read_known (Some x) None k piece s p e = absurd p
read_known (Some x) (Some y) k piece s p e =
    (p, λ z l. p ∙ ap (λ (n : ℕ). take n piece ++ y) z ∙ e z l)

-- a read that failed
pub kept_known : (a b : Option (List ℕ)) → Alike a b → Keeps a b → Loses a b []
kept_known None None s p = tt
kept_known None (Some y) s p = absurd s
kept_known (Some x) None s p = absurd p
kept_known (Some x) (Some y) s p = sym p

-- a write that took these bytes
pub gains_known : (faults : ℕ) (a b : Option (List ℕ)) (bs : List ℕ) → Alike a b → Appends a b bs
    → Gains (unless_failed faults a) (unless_failed faults b) bs
gains_known faults a b bs s p = by_test (nat_lt 0 faults) a b s p
  where
    by_test : (t : Bool) (a b : Option (List ℕ)) → Alike a b → Appends a b bs
        → Gains (if t then None else a) (if t then None else b) bs
    by_test true a b s p = tt
    by_test false a None s p = tt
    by_test false None (Some y) s p = absurd s
    by_test false (Some x) (Some y) s p = p

-- a write after which the bytes are not reported
pub gains_unknown : (faults : ℕ) (a b : Option (List ℕ)) (bs : List ℕ) → 0 < faults
    → Gains a (unless_failed faults b) bs
gains_unknown faults a b bs some = rw (lt-ltb 0 faults some) tt
