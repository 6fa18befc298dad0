-- The loading theorem: a load of a well-formed tape ends at its entry, at its cost, in the state at the entry.
use Rattle.ed_initial.proofs.Kit.{common_steps, rules, Went, IsStore, Obeyed, step, State, progress, state_after}
use Rattle.ed_initial.proofs.Kit.{opening, ap, arith, length, List, suc, ℕ, ◌*◌, ◌+◌, ◌≡◌, ◌≤◌, TapeEntry, WellFormed}
use Rattle.ed_initial.proofs.Kit.{NotationState, at_entry, IsStarted, ReachesEntry, EndsAs, Loaded}
use Rattle.ed_notation.specs.Faults.{RowsReachEntry}
use Rattle.ed_notation.proofs.Costs.{cost-most}
use Rattle.ed_initial.specs.Entry.{IsLoaded}
use Rattle.ed_initial.specs.Load.{orders_of}
use Rattle.ed_initial.specs.declared.loading.Loaded.TheVariants.{Entered}
use Rattle.ed_initial.proofs.Quiet.{LeadsIn, comes_in}
use Rattle.ed_initial.proofs.Settled.{Entered-settled}
use Rattle.ed_initial.proofs.Started.{well_comes}

-- no tape costs more than 17 orders a row
pub cost_fits : (words : List ℕ) (start : NotationState) (base : ℕ) (rows : List ℕ) (e : TapeEntry)
    → RowsReachEntry words start base rows e
    → e.cost ≤ 17 * length rows + base
cost_fits words start base rows e c = grind (arith, common_steps, (cost-most words start base rows e c))

-- a load that leads to an entry within its bound
pub IsLoaded-ended : {s : State} {e : TapeEntry} (bound : ℕ) {t : State} {r : Loaded} → LeadsIn s e → e.cost ≤ bound
    → EndsAs s bound r → t ≡ state_after (orders_of r) s → IsLoaded s e r t
unfolding progress
IsLoaded-ended {s} {e} bound {r = r} a fits ends is =
    let m = a.before in
    let went : (step (state_after m s)).turn ≡ Went = ap (λ (o : Obeyed). o.turn) a.last in
    let end : (step (state_after m s)).state ≡ at_entry s e = ap (λ (o : Obeyed). o.state) a.last in
    let below : suc m ≤ bound = omega (arith, a.cost_is) in
    let result : r ≡ Entered (state_after (suc m) s).counter (suc m) =
    Entered-settled s bound m a.quiet went a.enters_is below ends in
    let place : (state_after (suc m) s).counter ≡ e.at = ap (λ (x : State). x.counter) end in
    let cost = a.cost_is in
    search rules

module _ (s t : State) (r : Loaded) (store : IsStore s.store) (started : IsStarted s)
    (ends : EndsAs s (17 * length s.tape + 9) r)
    (is : t ≡ state_after (orders_of r) s) where
  pub whole_load : (e : TapeEntry) → ReachesEntry s e → IsLoaded s e r t
  whole_load e h = search (rules, IsLoaded-ended, comes_in, cost_fits)

  -- the same without a given entry
  pub total_load : WellFormed s.size s.store.words (opening s.store.words) s.tape
      → (e : TapeEntry) × ReachesEntry s e × IsLoaded s e r t
  total_load well = let h = well_comes s well in (h.0, h.1, whole_load h.0 h.1)
