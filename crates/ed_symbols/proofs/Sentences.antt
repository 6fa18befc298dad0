-- Tests, and the sentences that say the same.
use Rattle.ed_symbols.proofs.Kit.{Bool, not, true, ◌≡◌, rules}

-- a test and a sentence say the same
pub record Ties (test : Bool) (sentence : Type 0) : Type 0 where
  pub says : test ≡ true → sentence
  pub tests : sentence → test ≡ true

pub not_true : (x : Bool) → not x ≡ true → x ≡ true → ⊥
not_true x h g = cc

pub true_not : (x : Bool) → (x ≡ true → ⊥) → not x ≡ true
true_not x h = search rules
