-- How far into a tape faults and entries are, and that every part reads at least one row.
use Rattle.ed_interlude.proofs.Kit.{TapeCause, arith, Bool, false, if◌then◌else◌, length, nat_eq, true, ℕ}
use Rattle.ed_interlude.proofs.Kit.{◌≤◌, TapeEntry, HasFault, LeadsTo, TapePart}
use Rattle.ed_notation.proofs.Kit.{length-append}
use Rattle.std.proofs.Common.{rules}

pub fault_within : (p : TapePart) (row : ℕ) (cause : TapeCause) → HasFault p row cause → row ≤ length p.state.tape
fault_within p row cause f = search (rules, length-append)

pub entry_within : (p : TapePart) (e : TapeEntry) → LeadsTo p e → e.rows ≤ length p.state.tape
entry_within p e l = search (rules, length-append)

some_base : (b : Bool) → 2 ≤ (if b then 9 else 2)
some_base true = omega arith
some_base false = omega arith

pub some_cost : (p : TapePart) (e : TapeEntry) → LeadsTo p e → 2 ≤ e.cost
some_cost p e l = omega (arith, l.comes.cost_is, some_base (nat_eq p.number 1))
