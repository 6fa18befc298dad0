-- The functions of orders, one after the other.
use Rattle.ed_stepper.proofs.Kit.{append-nil, State, state_after, [], ap, append_assoc, List, sym, ℕ, ◌++◌, ◌+◌, ◌∙◌}
use Rattle.ed_stepper.proofs.Kit.{◌∷◌, ◌≡◌, functions_after, next_functions, no_functions}
use Rattle.ed_words.specs.Words.{function_of}
use Rattle.ed_machine.specs.OrderTable.{next_word}
use Rattle.std.proofs.Common.{rules}

pub listed_none : (s : State) (xs : List ℕ) → xs ≡ xs ++ functions_after 0 s
listed_none s xs = sym (ap (λ t. xs ++ t) (no_functions s) ∙ append-nil xs)

pub listed_more : (xs : List ℕ) {items more : List ℕ} (k : ℕ) {f : ℕ} (s : State) {m : State} → more ≡ items ++ f ∷ []
    → items ≡ xs ++ functions_after k s
    → f ≡ function_of (next_word m) → m ≡ state_after k s → more ≡ xs ++ functions_after (k + 1) s
listed_more xs k s grown are is at = search (rules, append_assoc, next_functions)
