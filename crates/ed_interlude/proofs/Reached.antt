-- The Initial Orders lead every part to the state at its entry.
use Rattle.ed_interlude.proofs.Kit.{cases_eq, eq-eqb, ne_eqb, inl, inr}
use Rattle.ed_interlude.proofs.Kit.{TapeEntry, LeadsIn, Begins, LeadsTo, TapePart}
use Rattle.ed_initial.proofs.Quiet.{comes_in}
use Rattle.ed_interlude.specs.Laws.{EachEntryIsReached}
use Rattle.ed_interlude.proofs.Resumed.{leads_back}

pub leads_in : (p : TapePart) (e : TapeEntry) → Begins p → LeadsTo p e → LeadsIn p.state e
leads_in p e begins leads =
    elim (cases_eq p.number 1) [
      | inl one ↦
          let same = eq-eqb p.number 1 one in
          comes_in p.state e begins.store (begins.first one)
          (record { well = rw same at leads.well; comes = rw same at leads.comes })
      | inr other ↦
          let same = ne_eqb p.number 1 other in
          leads_back p.state e begins.store (begins.further other)
          (record { well = rw same at leads.well; comes = rw same at leads.comes })
    ]

pub each_reached : EachEntryIsReached
each_reached p e begins leads =
    let l = leads_in p e begins leads in record { state_is = l.arrives; silent = l.prints_none }
