use Rattle.ed_page.proofs.Kit.{latest_shift, length, reverse, ◌≡◌}
use Rattle.ed_page.proofs.papers.printer_after.Given as goal

-- no code after the rest sets a shift
abbrev pub invariant-loop-code : goal.invariant-loop-code
invariant-loop-code l = latest_shift (reverse l.codes) ≡ latest_shift (reverse l.rest)

abbrev pub decreases-loop-code : goal.decreases-loop-code
decreases-loop-code l = length l.rest
