use Rattle.ed_page.proofs.Kit.{Cells, IsStore, ℕ, ◌<◌, PicturesStore}
use Rattle.ed_page.proofs.Stores.{SamePair}
use Rattle.ed_page.proofs.snapshot.store_of.Given as goal

-- the pairs so far are those of each store that is pictured
abbrev pub invariant-loop-k : goal.invariant-loop-k
invariant-loop-k l = IsStore l.store
    × ((c : Cells) → IsStore c → PicturesStore c l.fn.words l.fn.digits → (j : ℕ) → j < l.k → SamePair l.store c j)
