use Rattle.ed_programs.proofs.Kit.{drop, string_bytes, ◌++◌, ◌≡◌, numbers_text}
use Rattle.ed_programs.proofs.lists.rows_of.Given as goal

abbrev pub invariant-loop-number : goal.invariant-loop-number
invariant-loop-number l =
    string_bytes l.rows ++ numbers_text (drop l.number-index l.numbers) ≡ numbers_text l.numbers
