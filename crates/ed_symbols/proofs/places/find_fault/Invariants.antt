use Rattle.ed_symbols.proofs.Kit.{[], drop, ◌*◌, ◌+◌, ◌≡◌, ◌≤◌, naming_fault_from, first_counter}
use Rattle.ed_symbols.proofs.places.find_fault.Given as goal

-- the fault is that of the lines that are left
abbrev pub invariant-loop-line : goal.invariant-loop-line
invariant-loop-line l =
    (naming_fault_from l.symbols l.earlier.items l.counter (drop l.line-index l.program.lines.items)
    ≡ naming_fault_from l.symbols [] first_counter l.program.lines.items)
    × (l.counter.place ≤ 56 + 65536 * l.line-index)
    × (l.counter.segments ≤ l.line-index)
