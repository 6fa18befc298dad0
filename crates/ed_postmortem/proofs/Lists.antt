-- Words laid over a list of words, and a list with a new front.
use Rattle.ed_postmortem.proofs.Kit.{get_above, [], ap, arith, drop, get_or, length, List, refl, suc, zero, ℕ, ◌++◌}
use Rattle.ed_postmortem.proofs.Kit.{◌+◌, ◌∷◌, ◌≡◌, ◌≤◌, patched}
use Rattle.ed_notation.proofs.Placing.{with_block}

-- words laid over a store are a window on it
pub block_window : (xs : List ℕ) (a : ℕ) (cs : List ℕ) → a ≤ length xs → with_block xs a cs ≡ patched 0 xs a cs
unfolding patched
block_window xs zero cs h = let e : 0 + length cs ≡ length cs = omega arith in rw e refl
block_window [] (suc a) cs h = absurd (omega arith)
block_window (x ∷ xs) (suc a) cs h =
    let e : suc a + length cs ≡ suc (a + length cs) = omega arith
    in rw e (ap (λ l. x ∷ l) (block_window xs a cs (omega arith)))

-- a window after the front of a list
pub behind_head : (xs ys cs : List ℕ) (b : ℕ) → patched 0 (xs ++ ys) (length xs + b) cs ≡ xs ++ patched 0 ys b cs
unfolding patched
behind_head [] ys cs b = let e : 0 + b ≡ b = omega arith in rw e refl
behind_head (x ∷ xs) ys cs b = let e : suc (length xs) + b ≡ suc (length xs + b) = omega arith
    in rw (e, behind_head xs ys cs b) refl

pub drop_window : (n : ℕ) (ys cs : List ℕ) (b : ℕ) → n ≤ length ys
    → drop n (patched 0 ys (n + b) cs) ≡ patched 0 (drop n ys) b cs
unfolding patched
drop_window zero ys cs b h = let e : 0 + b ≡ b = omega arith in rw e refl
drop_window (suc n) [] cs b h = absurd (omega arith)
drop_window (suc n) (y ∷ ys) cs b h = let e : suc n + b ≡ suc (n + b) = omega arith
    in rw e (drop_window n ys cs b (omega arith))

-- after a new front a list is unchanged
pub headed_same : (xs ys : List ℕ) (i : ℕ) → length xs ≤ i → get_or (xs ++ drop (length xs) ys) i 0 ≡ get_or ys i 0
unfolding patched
headed_same xs ys i h = get_above 0 ys 0 xs i (omega arith)
