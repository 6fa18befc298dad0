-- What the loop over the lines needs.
use Rattle.ed_link.proofs.Kit.{Size, arith, Bool, drop, length, List, None, Option, unwrap_or, ℕ, ◌*◌, ◌++◌}
use Rattle.ed_link.proofs.Kit.{◌+◌, ◌<◌, ◌≡◌, ◌≤◌, Line, Statement, LocationCounter, Definition}
use Rattle.ed_link.proofs.Kit.{after_statement, first_counter, cause_of, fault_from, LinesBefore, reach, data_after}
use Rattle.ed_link.proofs.Kit.{entry_from, placed_from, first_past, punched_from, put_all, table_of, Built}
use Rattle.std.proofs.lemmas.Grind.{common_steps}

-- a base is not above its location
pub base_under : (st : Option Statement) (s : LocationCounter) → s.base ≤ s.place
    → (after_statement st s).base ≤ (after_statement st s).place
base_under st s h = grind arith

-- a line without a fault needs locations below 1024
pub reach_fits : (z : Size) (symbols : List Definition) (has_enter : Bool) (past : LinesBefore) (l : Line)
    (s : LocationCounter)
    → cause_of z symbols has_enter past l s ≡ None
    → (reach symbols l.statement s).from < (reach symbols l.statement s).after
    → (reach symbols l.statement s).after ≤ 1024
reach_fits z symbols has_enter past l s h some = grind (arith, common_steps)

-- what is made of the lines so far: what they leave for later lines, the location counter after them, and what is built
pub record Made : Type 0 where
  pub past : LinesBefore
  pub counter : LocationCounter
  pub built : Built

-- with that of the lines that are left it is what is made of all
pub record Doing (z : Size) (symbols : List Definition) (has_enter : Bool) (lines : List Line) (n : ℕ) (m : Made) :
    Type 0 where
  pub fault : fault_from z symbols has_enter m.past m.counter (drop n lines)
      ≡ fault_from z symbols has_enter first_past first_counter lines
  pub items_are : m.built.items.items ++ punched_from symbols m.counter (drop n lines)
      ≡ punched_from symbols first_counter lines
  pub table_is : put_all m.built.table.items (placed_from symbols m.counter (drop n lines))
      ≡ table_of (placed_from symbols first_counter lines)
  pub size : length m.built.table.items ≡ 1024
  pub rows_are : m.built.after.items ++ data_after (drop n lines) ≡ data_after lines
  pub entry_is : unwrap_or m.built.entry (entry_from symbols (drop n lines)) ≡ entry_from symbols lines
  pub place : m.counter.place ≤ 56 + 65536 * n
  pub segments : m.counter.segments ≤ n
  pub base : m.counter.base ≤ m.counter.place
  pub few_items : length m.built.items.items ≤ 240 * n
  pub few_rows : length m.built.after.items ≤ 120 * n
