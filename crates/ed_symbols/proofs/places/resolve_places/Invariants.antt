use Rattle.ed_symbols.proofs.Kit.{drop, length, ◌*◌, ◌++◌, ◌+◌, ◌≡◌, ◌≤◌, symbols_from, first_counter}
use Rattle.ed_symbols.specs.Places.{positions_from}
use Rattle.ed_symbols.proofs.places.resolve_places.Given as goal

-- what is known of the lines so far, and then of those that are left
abbrev pub invariant-loop-line : goal.invariant-loop-line
invariant-loop-line l =
    (l.positions.items ++ positions_from l.counter (drop l.line-index l.program.lines.items)
    ≡ positions_from first_counter l.program.lines.items)
    × (l.symbols.items ++ symbols_from l.counter (drop l.line-index l.program.lines.items)
    ≡ symbols_from first_counter l.program.lines.items)
    × (length l.positions.items ≡ l.line-index)
    × (l.counter.place ≤ 56 + 65536 * l.line-index)
    × (l.counter.segments ≤ l.line-index)
