-- How many codes are needed, word by word.
use Rattle.ed_postmortem.proofs.Kit.{length-append, arith, get_or, length, List, refl, ℕ, ◌+◌, ◌-◌, ◌<◌, ◌≡◌, ◌≤◌}
use Rattle.ed_postmortem.proofs.Kit.{printed_codes, word_codes, rules}

pub next_codes : (words : List ℕ) (first done count : ℕ) → done < count
    → length (printed_codes words (first + done) (count - done))
    ≡ length (word_codes (get_or words (first + done) 0))
    + length (printed_codes words (first + (done + 1)) (count - (done + 1)))
unfolding printed_codes
next_codes words first done count h = search (rules, length-append)

pub no_codes : (words : List ℕ) (p done count : ℕ) → count ≤ done → length (printed_codes words p (count - done)) ≡ 0
unfolding printed_codes
no_codes words p done count h = let e : count - done ≡ 0 = omega arith in rw e refl
