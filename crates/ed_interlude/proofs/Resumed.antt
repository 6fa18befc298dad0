-- A load that is resumed: from a machine that returned, a well-formed rest of a tape leads to the state at the
-- entry, by the same induction as the load of a whole tape.
use Rattle.ed_interlude.proofs.Kit.{ap, arith, false, get_or, inl, inr, length, None, refl, subst, ◌*◌, ◌+◌, ◌<◌, ◌^◌}
use Rattle.ed_interlude.proofs.Kit.{◌∙◌, ◌≡◌, IsStore, State, state_after, TapeEntry, IsDirective, reading_is_rules}
use Rattle.ed_interlude.proofs.Kit.{frame, state, LeadsIn, directive, IsReturned, LeavesDirective, reopening}
use Rattle.ed_initial.proofs.Kit.{Arrived, reading_on, EndsAs, IsNotationState, Scratch}
use Rattle.ed_initial.specs.Entry.{IsLoaded}
use Rattle.ed_initial.specs.Load.{orders_of}
use Rattle.ed_initial.specs.declared.loading.Loaded.{Loaded}
use Rattle.ed_initial.proofs.Loads.{Reaches, Rest, Reaches-prepend, Reaches-loads}
use Rattle.ed_initial.proofs.Quiet.{leads_in}
use Rattle.ed_initial.proofs.Whole.{cost_fits, IsLoaded-ended}
use Rattle.ed_interlude.specs.Returned.{IsRestWellFormed, ReachesNextEntry}
use Rattle.ed_interlude.proofs.Reopened.{held, reopens, state-reopened, return_path}
use Rattle.std.proofs.Common.{rules}

pub is_directive : (s : State) → LeavesDirective s → IsDirective (directive s)
is_directive s leaves = omega (arith, leaves.least, leaves.most)

is_note : (s : State) → LeavesDirective s → get_or s.store.words 42 0 < 2 ^ 17 → IsNotationState (reopening s)
is_note s leaves theta = omega (arith, leaves.even, leaves.least, leaves.most)

pub comes_back : (s : State) → IsReturned s → IsRestWellFormed s → (e : TapeEntry) × ReachesNextEntry s e
comes_back s back well =
    elim (reading_is_rules s.size s.store.words (reopening s) 2 s.tape (is_directive s back.leaves)).either [
      | inl h ↦ (h.1.0, record { well = h.0; comes = h.1.1 })
      | inr h ↦ absurd (well h.0 h.1 h.2.is)
    ]

-- what the first rest leaves open
abbrev pub left : State → Scratch
left s = record {
  at0 = get_or s.store.words 0 0;
  at1 = get_or s.store.words 1 0;
  at20 = get_or s.store.words 20 0;
  at40 = get_or s.store.words 40 0;
  at41 = get_or s.store.words 41 0;
  digit40 = get_or s.store.sandwich 20 false;
}

pub leads_back : (s : State) (e : TapeEntry) → IsStore s.store → IsReturned s → ReachesNextEntry s e → LeadsIn s e
leads_back s e store back h =
    let ws = s.store.words in
    let f = frame s store in
    let set = is_directive s back.leaves in
    let read : reading_on s.size ws 0 2 (reopening s) None s.tape ≡ Arrived e =
    (reading_is_rules s.size ws (reopening s) 2 s.tape set).arrived e h.well h.comes in
    let first : Rest = record { scratch = left s; row = 0; cost = 2; notation = reopening s } in
    let rest = Reaches-loads f ws s.orders s.tape first (is_note s back.leaves (store.fits 42)) read in
    let path = return_path f (held ws) ws (get_or s.store.sandwich 20 false) s.acc (directive s) s.tape refl in
    let begun : Reaches f ws s.orders 0 (state f (reopens s store) (s.orders + 0)) e =
    Reaches-prepend f ws s.orders 2 0 path rest in
    let zero : s.orders + 0 ≡ s.orders = omega arith in
    let same : state f (reopens s store) (s.orders + 0) ≡ s = ap (state f (reopens s store)) zero
    ∙ state-reopened s store back in
    leads_in s store e (subst (λ x. Reaches f ws s.orders 0 x e) same begun)

module _ (s t : State) (r : Loaded) (store : IsStore s.store) (back : IsReturned s)
    (ends : EndsAs s (17 * length s.tape + 2) r)
    (is : t ≡ state_after (orders_of r) s) where
  pub resumed_load : (e : TapeEntry) → ReachesNextEntry s e → IsLoaded s e r t
  resumed_load e h = search (rules, IsLoaded-ended, leads_back, cost_fits)

  -- the same without a given entry
  pub total_resume : IsRestWellFormed s → (e : TapeEntry) × ReachesNextEntry s e × IsLoaded s e r t
  total_resume well = let h = comes_back s back well in (h.0, h.1, resumed_load h.0 h.1)
