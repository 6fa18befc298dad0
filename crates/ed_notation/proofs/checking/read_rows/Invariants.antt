use Rattle.ed_notation.proofs.Kit.{opening_with}
use Rattle.ed_notation.proofs.Loop.{Check, StandsAt}
use Rattle.ed_notation.proofs.checking.read_rows.Given as goal

abbrev pub invariant-loop-row : goal.invariant-loop-row
invariant-loop-row l =
    let words = l.fn.contents.words in
    let check : Check = record {
      size = l.size;
      words = words;
      start = opening_with l.fn.directive words;
      base = l.base;
      rows = l.rows;
    } in
    StandsAt check l.row l.orders l.setting l.item l.contents.words l.placed
