use Rattle.ed_report.proofs.Kit.{drop, ◌++◌, ◌≡◌, catalogue, routine_lines}
use Rattle.ed_report.specs.Catalogue.{library_text}
use Rattle.ed_report.proofs.library.library_text.Given as goal

-- the lines so far, and then those of the routines that are left
abbrev pub invariant-loop-index : goal.invariant-loop-index
invariant-loop-index l = l.lines.items ++ routine_lines (drop l.index catalogue) ≡ library_text
