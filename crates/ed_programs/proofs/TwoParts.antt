-- What is stated of a whole tape in two parts, an interlude and the program after it: what the commands `parts` and
-- `tape` answer to it.
use Rattle.ed_programs.proofs.Kit.{Settings, rows, IsDue, entry_line, returned_line, [], codes, List, None, Some, ℕ}
use Rattle.ed_programs.proofs.Kit.{◌++◌, ◌+◌, ◌∷◌, ◌≡◌, ◌≤◌, Text, at_after, output, reading}
use Rattle.ed_command.specs.declared.command.Action.TheVariants.{Parts, Tape}

-- a part of a tape: its entry point, the orders and the rows that lead there, and the orders of its program up to its
-- return or its stop
pub record PartRun : Type 0 where
  pub entry : ℕ
  pub cost : ℕ
  pub rows : ℕ
  pub orders : ℕ

abbrev pub part : ℕ → ℕ → ℕ → ℕ → PartRun
part e c r o = record { entry = e; cost = c; rows = r; orders = o }

-- a tape in two parts: the interlude, the location for which it returns, the program, and its stop
pub record TwoParts : Type 0 where
  pub interlude : PartRun
  pub returns_for : ℕ
  pub program : PartRun
  pub stop : ℕ

-- the number of orders up to the return
abbrev pub orders_to_return : TwoParts → ℕ
orders_to_return t = t.interlude.cost + t.interlude.orders

-- the number of orders up to the entry of the program
abbrev pub orders_to_program : TwoParts → ℕ
orders_to_program t = orders_to_return t + t.program.cost

-- the number of orders up to its stop
abbrev pub orders_to_stop : TwoParts → ℕ
orders_to_stop t = orders_to_program t + t.program.orders

-- the lines of `parts`: an entry, a return and an entry
abbrev pub two_parts_lines : TwoParts → Text
two_parts_lines t =
    entry_line t.interlude.entry t.interlude.cost t.interlude.rows
    ++ (returned_line t.returns_for (orders_to_return t)
    ++ entry_line t.program.entry (orders_to_program t) (t.interlude.rows + t.program.rows))

-- the note of both commands
abbrev pub two_parts_note : TwoParts → Text
two_parts_note t = at_after (codes "stopped") t.stop (orders_to_stop t) ++ 10 ∷ []

-- the text spells rows; and if the limit is at least the orders up to the stop, the answer of `parts` is these lines
-- and that of `tape` is this paper, each with the note of the stop and status 0
pub record TwoPartsRun (s : Settings) (tape : Text) (t : TwoParts) (paper : Text) : Type 0 where
  pub codes_of : List ℕ
  pub spelled : reading tape ≡ rows codes_of
  pub parts : orders_to_stop t ≤ s.limit
      → IsDue (output (Some (record { action = Parts; settings = s }))) tape (record {
        out = two_parts_lines t;
        note = two_parts_note t;
        status = 0;
      })
  pub whole : s.resumes ≡ 0 → s.post_mortem ≡ None → orders_to_stop t ≤ s.limit
      → IsDue (output (Some (record { action = Tape; settings = s }))) tape (record {
        out = paper;
        note = two_parts_note t;
        status = 0;
      })
