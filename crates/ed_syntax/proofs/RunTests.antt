-- Whether a text is a run, and tests that hold of and_from or of each.
use Rattle.ed_syntax.proofs.Kit.{[], Bool, false, List, true, ◌++◌, ◌∷◌, ◌≡◌, list_all, and_from, Text}
use Rattle.ed_syntax.proofs.Kit.{is_run_byte, arith, common_steps}

-- whether this is a run, and not empty
abbrev pub is_run : Text → Bool
is_run [] = false
is_run (b ∷ r) = list_all is_run_byte (b ∷ r)

pub each_append : {A : Type 0} (test : A → Bool) (xs ys : List A) → list_all test xs ≡ true → list_all test ys ≡ true
    → list_all test (xs ++ ys) ≡ true
each_append test [] ys e f = f
each_append test (x ∷ xs) ys e f = grind (arith, common_steps, and_from)
