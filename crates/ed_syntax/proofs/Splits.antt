-- A text split at one of its bytes.
use Rattle.ed_syntax.proofs.Kit.{drop, get_or, length, take, ℕ, ◌++◌, ◌+◌, ◌<◌, ◌∷◌, ◌≡◌, rules}
use Rattle.ed_syntax.proofs.Kit.{take-append-drop, Text}
use Rattle.std.proofs.lemmas.List.{drop_more}

pub split_at : (text : Text) (i b : ℕ) → i < length text → get_or text i 0 ≡ b
    → text ≡ take i text ++ b ∷ drop (i + 1) text
split_at text i b lt is = search (rules, drop_more, take-append-drop)
