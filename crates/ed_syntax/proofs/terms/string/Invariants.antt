use Rattle.ed_syntax.proofs.Kit.{length, map, take, true, ◌≡◌, list_all, row_of}
use Rattle.ed_syntax.specs.Reading.Grammar.{row, spells}
use Rattle.ed_syntax.proofs.terms.string.Given as goal

abbrev pub invariant-loop-byte : goal.invariant-loop-byte
invariant-loop-byte l = record {
  spelled : list_all (λ b. spells (row_of b)) (take l.byte-index l.text) ≡ true;
  rows : l.rows.items ≡ map (λ b. row (row_of b)) (take l.byte-index l.text);
  count : length l.rows.items ≡ l.byte-index;
}
