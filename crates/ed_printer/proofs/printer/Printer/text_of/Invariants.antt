use Rattle.std.proofs.Common.{◌≡◌, ◌+◌, ◌*◌, ◌-◌, ◌<◌, ◌≤◌, ◌++◌, drop, length, List, ℕ}
use Rattle.std.specs.Prelude.{slice_index, vec_capacity, vec_len}
use Rattle.ed_printer.specs.Paper.{bytes_of, paper_from, struck_bytes}
use Rattle.ed_printer.proofs.printer.Printer.text_of.Given as goal

-- what is printed, and then the codes that are left from the shift on; the characters are those of the shift; and there
-- is room for the bytes of the codes that are left
abbrev pub invariant-loop-code : goal.invariant-loop-code
invariant-loop-code l = record {
  printed : (rest : List ℕ) →
      paper_from l.initial.shift (l.codes ++ rest)
      ≡ l.text.items ++ paper_from l.shift (drop l.code-index l.codes ++ rest);
  characters : (code : ℕ) → code < 32 → bytes_of (slice_index l.characters code) ≡ struck_bytes l.shift code;
  room : vec_len l.text + 2 * (length l.codes - l.code-index) ≤ vec_capacity l.text;
}
