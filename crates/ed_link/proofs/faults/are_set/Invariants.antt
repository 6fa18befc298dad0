use Rattle.ed_link.proofs.Kit.{drop, ◌≡◌, list_all, is_some, set_to}
use Rattle.ed_link.proofs.faults.are_set.Given as goal

-- the same for the letters that are left
abbrev pub invariant-loop-letter : goal.invariant-loop-letter
invariant-loop-letter l =
    list_all (λ c. is_some (set_to l.settings c)) (drop l.letter-index l.letters)
    ≡ list_all (λ c. is_some (set_to l.settings c)) l.letters
