-- If parts end by the end of a program or at the limit, the run of the whole tape ends too.
use Rattle.ed_interlude.proofs.Kit.{same_Some, Ending, Limit, Stopped, Turn, append_assoc, rules, stops_of, end_by, []}
use Rattle.ed_interlude.proofs.Kit.{ap, arith, Bool, false, inl, inr, length, List, refl, Some, subst, suc, sym, zero}
use Rattle.ed_interlude.proofs.Kit.{ℕ, ◌++◌, ◌+◌, ◌-◌, ◌<◌, ◌∙◌, ◌≡◌, ◌≤◌, cases_lt, step, State, progress}
use Rattle.ed_interlude.proofs.Kit.{state_after, TapeEntry, Begins, Concludes, cut, entry_done, faulty, finished}
use Rattle.ed_interlude.proofs.Kit.{Finishes, first_part, GoesBack, LeadsTo, part_after, part_entry_state, PartsReport}
use Rattle.ed_interlude.proofs.Kit.{ReportsParts, RunsOn, TapePart, Ended}
use Rattle.ed_machine.proofs.Names.{append-nil, AreObeyed, codes_of, is_obeyed}
use Rattle.ed_machine.specs.Sound.{IsSound}
use Rattle.ed_machine.proofs.Kit.Leads.{Leads, all_go, AreObeyed-leads, goes_on, Leads-append, no_stops}
use Rattle.ed_machine.specs.declared.turn.Turn.TheVariants.{Stopped as Stops, NoOrder as IsNoOrder}
use Rattle.ed_machine.specs.declared.turn.Turn.TheVariants.{NoTape as HasNoTape}
use Rattle.ed_machine.proofs.SoundSteps.{sound_after}
use Rattle.ed_machine.proofs.Steps.{few_codes, free_more, no_step, quiet_codes}
use Rattle.ed_run.specs.Laws.{AllWent, HasRoom}
use Rattle.ed_initial.specs.Entry.{IsStarted, first_state}
use Rattle.ed_initial.proofs.Starts.{IsStarted-first_state, sound_start}
use Rattle.ed_interlude.specs.Laws.{EachEndIsTheRuns, EndsAsParts, EndsAsRun}
use Rattle.ed_interlude.specs.Parts.{last_printed, printed_from}
use Rattle.ed_interlude.proofs.Programs.{home_within, limit_ends, next_ends, runs_within, stop_ends, way_stops}
use Rattle.ed_interlude.proofs.Reached.{leads_in}
use Rattle.ed_run.proofs.Places as places

-- ---- orders one after the other

-- orders that only go on
quiet_walk : (k : ℕ) (s : State) → AllWent k s → Leads k s [] (state_after k s)
quiet_walk k s went =
    record { state_is = refl; codes_are = quiet_codes k s went; goes = λ j h. ap goes_on (went j h) }

-- ---- the walk of a program

blocked_of : (turn : Turn) (full : Bool) (ending : Ending) → end_by turn false ≡ Some ending
    → end_by turn full ≡ Some ending
blocked_of (IsNoOrder function) full ending h = h
blocked_of HasNoTape full ending h = h
blocked_of turn full ending h = absurd (cc)

stop_of : (turn : Turn) → 0 < stops_of turn → turn ≡ Stops
stop_of Stops h = refl
stop_of turn h = absurd (omega arith)

module _ (left : ℕ) (m : State) where
  run_walk : (k : ℕ) → RunsOn left k m → (progress k m).stops ≡ 0 → Leads k m (progress k m).codes (state_after k m)
  run_walk k runs none =
      record { state_is = refl; codes_are = refl; goes = all_go k m (λ j h. search rules) none }

-- ---- the end of the run

module _ (limit : ℕ) (s : State) where
  room : (k : ℕ) → k ≤ limit → AreObeyed k s → HasRoom limit k s
  room k few free = record { obeyed = free; printed = omega (arith, few_codes k s) }

  -- at the limit
  at_limit : (m : State) (codes : List ℕ) → Leads limit s codes m → EndsAsRun limit s Limit m codes
  at_limit m codes w = record {
    orders = limit;
    ends = places.at_limit limit 0 (room limit (omega arith) (AreObeyed-leads w))
        (omega (arith, no_stops limit s w.goes));
    state_is = sym w.state_is;
    prints = w.codes_are;
  }

  module _ (a left : ℕ) (m : State) (before : List ℕ) (whole : a + left ≡ limit) (first : Leads a s before m) where
    -- no stop was obeyed
    without_stop : (k : ℕ) (ending : Ending) → Finishes left k m ending → (progress k m).stops ≡ 0
        → EndsAsRun limit s ending (state_after k m) (before ++ (progress k m).codes)
    without_stop k ending f none =
        let walk = Leads-append first (run_walk left m k f.runs none) in
        elim (cases_lt k left) [
          | inl low ↦
              let at : end_by (step (state_after (a + k) s)).turn false ≡ Some ending =
              ap (λ (t : State). end_by (step t).turn false) walk.state_is ∙ sym (next_ends left m k low none)
              ∙ f.ends in
              record {
                orders = a + k;
                ends = places.at_block limit 0 (room (a + k) (omega arith) (AreObeyed-leads walk))
                    (omega (arith, no_stops (a + k) s walk.goes)) (omega arith) (blocked_of _ _ ending at);
                state_is = sym walk.state_is;
                prints = walk.codes_are;
              }
          | inr high ↦
              let e : k ≡ left = omega (arith, runs_within left m k f.runs) in
              let total : a + k ≡ limit = omega arith in
              let is : Limit ≡ ending = same_Some Limit ending (sym (limit_ends left m k e none) ∙ f.ends) in
              rw (← is) (at_limit (state_after k m) (before ++ (progress k m).codes) (rw total at walk))
        ]

    -- the last one was a stop
    with_stop : (k : ℕ) (ending : Ending) → Finishes left k m ending → 0 < (progress k m).stops
        → EndsAsRun limit s ending (state_after k m) (before ++ (progress k m).codes)
    unfolding progress
    with_stop zero ending f many = absurd (omega arith)
    with_stop (suc j) ending f many =
        let way = f.runs j (omega arith) in
        let none = way_stops left m j way in
        let stop : (step (state_after j m)).turn ≡ Stops = stop_of _ (omega (arith, none)) in
        let walk = Leads-append first (run_walk left m j (λ i h. f.runs i (omega arith)) none) in
        let turn : (step (state_after (a + j) s)).turn ≡ Stops =
        ap (λ (t : State). (step t).turn) walk.state_is ∙ stop in
        let obeyed = free_more (a + j) s (AreObeyed-leads walk) (ap is_obeyed turn) in
        let is : Stopped ≡ ending = same_Some Stopped ending (sym (stop_ends left m (suc j) many) ∙ f.ends) in
        let within = runs_within left m (suc j) f.runs in
        rw (← is) (record {
          orders = suc (a + j);
          ends = places.at_stop limit 0 (room (suc (a + j)) (omega arith) obeyed) (no_stops (a + j) s walk.goes)
              (omega arith) turn;
          state_is = ap (λ (t : State). (step t).state) (sym walk.state_is);
          prints = (λ i. walk.codes_are i ++ codes_of ((turn ∙ sym stop) i))
              ∙ append_assoc before (progress j m).codes (codes_of (step (state_after j m)).turn);
        })

    program_ends : (k : ℕ) (ending : Ending) → Finishes left k m ending
        → EndsAsRun limit s ending (state_after k m) (before ++ (progress k m).codes)
    program_ends k ending f =
        elim (cases_lt 0 (progress k m).stops) [
          | inl many ↦ with_stop k ending f many
          | inr none ↦ without_stop k ending f (omega arith)
        ]

  -- ---- part by part

  -- the parts up to here are orders of the run and printed this, and here one begins
  record Along (p : TapePart) (before : List ℕ) : Type 0 where
    walk : Leads p.done s before p.state
    within : p.done ≤ limit
    some : 1 ≤ p.number
    begins : Begins p

  to_entry : (p : TapePart) (e : TapeEntry) (before : List ℕ) → Along p before → LeadsTo p e
      → Leads (entry_done p e) s before (part_entry_state p e)
  to_entry p e before h leads =
      rw append-nil at (Leads-append h.walk (quiet_walk e.cost p.state (leads_in p e h.begins leads).went))

  concludes : (p : TapePart) (before : List ℕ) (t : PartsReport) (ending : Ending) → Along p before
      → (told : Concludes limit (length s.tape) p t) → t.end ≡ Ended ending
      → EndsAsRun limit s ending t.last (before ++ last_printed told)
  concludes p before t ending h (faulty row cause fault is) end =
      let e = ap (λ (x : PartsReport). x.end) is in absurd (cc)
  concludes p before t ending h (cut e leads short is) end =
      let left = limit - p.done in
      let went = (leads_in p e h.begins leads).went in
      let walk = Leads-append h.walk (quiet_walk left p.state (λ j low. went j (omega (arith, h.within)))) in
      let total : p.done + left ≡ limit = omega (arith, h.within) in
      let ends = ap (λ (x : PartsReport). x.end) is in
      let same : Limit ≡ ending = cc in
      rw (← same, ap (λ (x : PartsReport). x.last) is)
      (at_limit (state_after left p.state) (before ++ []) (rw total at walk))
  concludes p before t ending h (finished e k d leads within f is) end =
      let last = ap (λ (x : PartsReport). x.end) is in
      let same : d ≡ ending = cc in
      let ends = program_ends (entry_done p e) (limit - entry_done p e) (part_entry_state p e) before
      (omega (arith, within)) (to_entry p e before h leads) k d f in
      subst (λ (x : State). EndsAsRun limit s ending x (before ++ (progress k (part_entry_state p e)).codes))
      (sym (ap (λ (x : PartsReport). x.last) is)) (rw same at ends)

  next_along : IsSound s → (p : TapePart) (before : List ℕ) (b : GoesBack limit p) → Along p before
      → Along (part_after p b) (before ++ (progress b.orders (part_entry_state p b.entry)).codes)
  next_along sound p before b h =
      let c = b.comes in
      let left = limit - entry_done p b.entry in
      let walk = Leads-append (to_entry p b.entry before h b.leads)
      (run_walk left (part_entry_state p b.entry) b.orders c.runs c.stops) in
      let few = home_within left (part_entry_state p b.entry) b.orders c in
      let there : IsSound (part_after p b).state = rw (← walk.state_is) (sound_after _ s sound) in
      record {
        walk = walk;
        within = omega (arith, few, b.within);
        some = omega arith;
        begins = record { store = there.store; first = λ e. absurd (omega (arith, h.some)); further = λ e. c.home };
      }

  ends : IsSound s → (n : ℕ) (t : PartsReport) {p : TapePart} {ending : Ending} (before : List ℕ) → Along p before
      → (told : ReportsParts limit (length s.tape) n p t) → t.end ≡ Ended ending
      → EndsAsRun limit s ending t.last (before ++ printed_from limit (length s.tape) n p t told)
  ends sound zero t {p} {ending} before h told end = concludes p before t ending h told end
  ends sound (suc n) t {p} {ending} before h told end =
      let codes = (progress told.0.orders (part_entry_state p told.0.entry)).codes in
      let later = printed_from limit (length s.tape) n (part_after p told.0) told.1 told.2 in
      let rest = ends sound n told.1 (before ++ codes) (next_along sound p before told.0 h) told.2
      (sym (ap (λ (x : PartsReport). x.end) told.3) ∙ end) in
      rw (ap (λ (x : PartsReport). x.last) told.3, ← append_assoc before codes later) rest

-- from every such state
ends_from : (limit : ℕ) (s : State) → IsSound s → IsStarted s → EndsAsParts limit s
ends_from limit s sound started t ending tells end =
    let first : Along limit s (first_part s) [] = record {
      walk = rw (← no_step s) at (quiet_walk 0 s (λ j h. absurd (omega arith)));
      within = omega arith;
      some = omega arith;
      begins = record { store = sound.store; first = λ e. started; further = λ ne. absurd (ne refl) };
    } in
    ends limit s sound tells.returns t [] first tells.told end

pub each_end : EachEndIsTheRuns
each_end = record {
  of_text = λ limit z text codes read.
      ends_from limit (first_state z codes) (sound_start z text codes read) (IsStarted-first_state z codes);
  from_start = ends_from;
}
