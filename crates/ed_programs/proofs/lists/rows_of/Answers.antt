use Rattle.ed_programs.proofs.Kit.{[], ap, append_assoc, arith, decimal, List, refl, sym, ℕ, ◌++◌, ◌∙◌, ◌∷◌, ◌≡◌}
use Rattle.ed_programs.proofs.Kit.{numbers_text, common_steps}
use Rattle.ed_programs.proofs.lists.rows_of.Goals as goal

-- one more number
numbers_then : (ns : List ℕ) (end : ℕ) → numbers_text (ns ++ end ∷ []) ≡ numbers_text ns ++ (decimal end ++ 70 ∷ [])
numbers_then [] end = refl
numbers_then (n ∷ ns) end =
    ap (λ (t : List ℕ). decimal n ++ 70 ∷ t) (numbers_then ns end)
    ∙ sym (append_assoc (decimal n) (70 ∷ numbers_text ns) (decimal end ++ 70 ∷ []))

pub returns-clause-ok : goal.returns-clause-ok
returns-clause-ok c = grind (arith, common_steps, numbers_then)
