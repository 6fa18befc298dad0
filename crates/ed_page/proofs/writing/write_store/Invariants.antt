use Rattle.ed_page.proofs.Kit.{◌*◌, digit, get_or, length, ℕ, ◌<◌, ◌≡◌}
use Rattle.ed_store.specs.Cells.{sandwich_at}
use Rattle.ed_page.proofs.writing.write_store.Given as goal

abbrev pub invariant-loop-a : goal.invariant-loop-a
invariant-loop-a l = (length l.words ≡ 1024)
    × ((j : ℕ) → j < l.a → get_or l.words j 0 ≡ get_or l.fn.machine.store.words j 0)

abbrev pub invariant-loop-k : goal.invariant-loop-k
invariant-loop-k l = (length l.digits ≡ 512)
    × ((j : ℕ) → j < l.k → get_or l.digits j 0 ≡ digit (sandwich_at l.fn.machine.store (2 * j)))
