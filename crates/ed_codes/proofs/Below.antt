-- A test that holds of each number below a bound, computed once.
use Rattle.std.proofs.Common.{◌≡◌, ℕ, zero, suc, ◌<◌, arith, Bool, true, ◌&&◌, inl, inr}
use Rattle.std.proofs.lemmas.Bool.{and_parts, cases_eq}

-- the test holds of each number below n
abbrev pub holds_below : (ℕ → Bool) → ℕ → Bool
holds_below test zero = true
holds_below test (suc n) = test n && holds_below test n

-- a test that holds of each number below n holds of any of them
pub from_below : (test : ℕ → Bool) (n k : ℕ) → holds_below test n ≡ true → k < n → test k ≡ true
from_below test zero k h l = absurd (omega arith)
from_below test (suc n) k h l =
    elim (cases_eq k n) [
      | inl e ↦ rw e (and_parts (test n) _ h).0
      | inr ne ↦ from_below test n k (and_parts (test n) _ h).1 (omega arith)
    ]
