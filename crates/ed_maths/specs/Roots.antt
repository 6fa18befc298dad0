-- What `root` does: it finds the integer square root of a word (this project's own rule).
use Rattle.std.specs.Prelude.{ℕ, zero, suc, nat_le, if◌then◌else◌, ◌+◌, ◌*◌, ◌<◌, ◌≤◌, List, [], ◌∷◌, codes}
use Rattle.ed_routines.specs.Catalogue.{routine_named}

-- the routine `root`
abbrev pub root : ℕ
root = routine_named (codes "root")

-- the parameters with H and N the locations of the number and of its root
abbrev pub with_hn : ℕ → ℕ → List ℕ
with_hn source target = 2 * source ∷ 2 * target ∷ 0 ∷ 0 ∷ 0 ∷ 0 ∷ []

-- r is the greatest number whose square is at most n
pub record IsRoot (n r : ℕ) : Type 0 where
  pub square : r * r ≤ n
  pub greatest : n < (r + 1) * (r + 1)

-- the greatest number from 0 to k whose square is at most n
unfoldable pub root_up_to : ℕ → ℕ → ℕ
root_up_to zero n = 0
root_up_to (suc k) n = if nat_le (suc k * suc k) n then suc k else root_up_to k n

-- the integer square root of a number
abbrev pub root_of : ℕ → ℕ
root_of n = root_up_to n n

-- the number of orders that `root` takes for a root
abbrev pub root_orders : ℕ → ℕ
root_orders r = 14 + 8 * r
