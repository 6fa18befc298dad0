use Rattle.ed_postmortem.proofs.Kit.{drop, ◌++◌, ◌≡◌, rows_of_text}
use Rattle.ed_postmortem.proofs.tape.push_text.Given as goal

abbrev pub invariant-loop-byte : goal.invariant-loop-byte
invariant-loop-byte l = l.rows.items ++ rows_of_text (drop l.byte-index l.text) ≡ l.fn.rows.items ++ rows_of_text l.text
