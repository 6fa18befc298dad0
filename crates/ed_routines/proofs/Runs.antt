-- A run whose limit is the number of orders that a path has.
use Rattle.ed_routines.proofs.Kit.{AreObeyed-leads, Leads, ap, arith, length, List, ℕ, ◌++◌, ◌+◌, ◌-◌, ◌≡◌, ◌≤◌, State}
use Rattle.ed_routines.proofs.Kit.{state_after, IsRun, rules}
use Rattle.ed_run.proofs.Kit.{Sheet, progress, first_once}
use Rattle.ed_machine.specs.declared.ending.Ending.{Ending}
use Rattle.ed_machine.proofs.Kit.Leads.{no_stops}
use Rattle.ed_run.specs.Laws.{HasRoom}
use Rattle.ed_run.proofs.Places.{at_limit}

-- what such a run leaves
pub record Ran (s t : State) (sheet full : Sheet) (codes : List ℕ) : Type 0 where
  pub state_is : t ≡ s
  pub sheet_is : full ≡ record { codes = sheet.codes ++ codes; room = sheet.room }

pub Ran-leads : {k : ℕ} {s t last : State} {sheet full : Sheet} {codes : List ℕ} {ending : Ending} → Leads k s codes t
    → length sheet.codes + length codes ≤ sheet.room → IsRun k 0 s sheet ending last full
    → Ran (state_after k s) last sheet full codes
Ran-leads {k} {s} {sheet = sheet} {codes = codes} o room r =
    let stops = no_stops k s o.goes in
    let few : length (progress k s).codes ≤ sheet.room - length sheet.codes = let e = ap length o.codes_are
    in omega (arith, e) in
    let has : HasRoom (sheet.room - length sheet.codes) k s = record { obeyed = AreObeyed-leads o; printed = few } in
    let one = first_once r.ends (at_limit k 0 has (omega (arith, stops))) in
    search rules
