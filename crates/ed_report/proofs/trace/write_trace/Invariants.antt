use Rattle.ed_report.proofs.Kit.{drop, ◌++◌, ◌≡◌, letters_from}
use Rattle.ed_report.proofs.trace.write_trace.Given as goal

-- the letters so far, and then those of the functions that are left
abbrev pub invariant-loop-place : goal.invariant-loop-place
invariant-loop-place l = l.text.items ++ letters_from l.place (drop l.place l.functions) ≡ letters_from 0 l.functions
