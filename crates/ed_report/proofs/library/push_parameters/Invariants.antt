use Rattle.ed_report.proofs.Kit.{flat_map, drop, ◌++◌, ◌≡◌, parameter_text}
use Rattle.ed_report.proofs.library.push_parameters.Given as goal

-- the line so far, and then the letters that are left
abbrev pub invariant-loop-letter : goal.invariant-loop-letter
invariant-loop-letter l =
    l.line.items ++ flat_map parameter_text (drop l.letter-index l.listed) ≡ l.initial.line.items
    ++ flat_map parameter_text l.listed
