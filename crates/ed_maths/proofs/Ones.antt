-- One binary digit more.
use Rattle.ed_maths.proofs.Kit.{arith, refl, suc, zero, ℕ, ◌%◌, ◌+◌, ◌-◌, ◌/◌, ◌<◌, ◌≡◌, ◌≤◌, ones}
use Rattle.std.proofs.lemmas.Grind.{common_steps}
use Rattle.std.proofs.Common.{lit≤}

next : (k q : ℕ) → ones (suc k) q ≡ q % 2 + ones k (q / 2)
unfolding ones
next k q = refl

pub ones-none : (q : ℕ) → ones 0 q ≡ 0
unfolding ones
ones-none q = refl

pub ones-counted : (done sum rest number : ℕ) → done < 16 → sum + ones (16 - done) rest ≡ ones 16 number
    → (sum + rest % 2) + ones (16 - (done + 1)) (rest / 2) ≡ ones 16 number
ones-counted done sum rest number below h = grind (arith, common_steps, (next (16 - (done + 1)) rest))

pub few_ones : (k q : ℕ) → ones k q ≤ k
unfolding ones
few_ones zero q = lit≤ tt
few_ones (suc k) q = let h = few_ones k (q / 2) in omega arith
