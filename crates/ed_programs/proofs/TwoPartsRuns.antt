-- A tape whose first program returns to the Initial Orders and whose second one reaches its stop, as the answers of the
-- commands `parts` and `tape`.
use Rattle.ed_programs.proofs.Kit.{INPUT_BYTES, ReachesNextEntry, ran_outcome-answered, with_post_mortem, ReachesEntry}
use Rattle.ed_programs.proofs.Kit.{append_assoc, length-append, state_after, nothing_after, tape_outcome, stop_after}
use Rattle.ed_programs.proofs.Kit.{IsStore, ReachesStop, ran_to_stop, first_state, first_store, ran_outcome, Size}
use Rattle.ed_programs.proofs.Kit.{OfReading, directive, IsReturned, is_obeyed, TapeEntry, paper_room, Settings}
use Rattle.ed_programs.proofs.Kit.{at_entry, comes_in, exactly, arith, cases_lt, progress, at_after, stops_of, prints}
use Rattle.ed_programs.proofs.Kit.{length, lt-ltb, Moment, run_end, reading, LeadsIn, Outcome, rows, codes, rules}
use Rattle.ed_programs.proofs.Kit.{subst, paper, State, Frame, state, Leads-append, Leads, IsStarted-first_state, inl}
use Rattle.ed_programs.proofs.Kit.{inr, List, refl, Some, suc, sym, true, zero, ◌++◌, Text, step, Path, stay, [], ap, ℕ}
use Rattle.ed_programs.proofs.Kit.{◌+◌, ◌-◌, ◌<◌, ◌∙◌, ◌∷◌, ◌≡◌, ◌≢◌, ◌≤◌, on, common_steps}
use Rattle.ed_interlude.proofs.Kit.{next_state, address, Concludes, entry_done, entry_report, finished, Finishes}
use Rattle.ed_interlude.proofs.Kit.{first_part, GoesBack, LeadsTo, part_after, part_entry_state, part_report}
use Rattle.ed_interlude.proofs.Kit.{PartsReport, ReturnsToLoader, RunsOn, TapePart}
use Rattle.ed_laws.proofs.Kit.{Obeyed, counted_after, next_stops, IsInParts}
use Rattle.ed_machine.specs.declared.ending.Ending.TheVariants.{Stopped}
use Rattle.ed_machine.specs.declared.turn.Turn.{Turn}
use Rattle.ed_machine.specs.declared.turn.Turn.TheVariants.{Stopped as Stops}
use Rattle.ed_machine.proofs.Kit.Leads.{AreObeyed-leads, goes_on, no_stops, obeyed_of}
use Rattle.ed_machine.proofs.Kit.Orders.{Does}
use Rattle.ed_machine.proofs.Kit.Paths.{no_state}
use Rattle.ed_orders.specs.declared.kind.Kind.{Kind}
use Rattle.ed_interlude.specs.Parts.{IsUnderWay, IsReportOfTape, program_end}
use Rattle.ed_interlude.specs.declared.tape.PartsEnd.TheVariants.{Ended}
use Rattle.ed_interlude.proofs.Resumed.{leads_back}
use Rattle.ed_programs.proofs.TwoParts.{TwoParts, TwoPartsRun, orders_to_program, orders_to_return, orders_to_stop}
use Rattle.ed_programs.proofs.TwoParts.{part, two_parts_lines, two_parts_note}
use Rattle.ed_machine.proofs.Kit.Paths as paths

-- ---- a program of a part

-- before each of k orders the machine is not at the location of a return
abbrev pub IsAway : ℕ → State → Type 0
IsAway k s = (j : ℕ) → j < k → (state_after j s).counter ≢ 25

-- before each order of a path the counter is after the Initial Orders
abbrev pub StaysAbove : {n h : ℕ} {f : Frame n h} {k : ℕ} {r t : Moment} {cs : List ℕ} → Path f k r cs t → Type 0
StaysAbove stay = Unit {0}
StaysAbove (on {r = r} first rest) = (44 ≤ r.counter) × StaysAbove rest
StaysAbove (prints {r = r} first rest) = (44 ≤ r.counter) × StaysAbove rest

away_on : {n h k : ℕ} {f : Frame n h} {kind : Kind} {r m : Moment} {turn : Turn} → Does f kind r turn m
    → 44 ≤ r.counter → (done : ℕ) → IsAway k (state f m (done + 1)) → IsAway (suc k) (state f r done)
away_on first above done rest zero l = search (rules, no_state)
away_on {f = f} {r = r} first above done rest (suc j) l =
    subst (λ (x : State). x.counter ≢ 25)
    (sym (paths.first_state j (state f r done) ∙ ap (λ (o : Obeyed). state_after j o.state) (first.does done)))
    (rest j (omega arith))

pub IsAway-path : {n h : ℕ} {f : Frame n h} {k : ℕ} {r t : Moment} {cs : List ℕ} (p : Path f k r cs t) → StaysAbove p
    → (done : ℕ) → IsAway k (state f r done)
IsAway-path stay above done = λ j l. absurd (omega arith)
IsAway-path (on first rest) above done = away_on first above.0 done (IsAway-path rest above.1 (done + 1))
IsAway-path (prints first rest) above done = away_on first above.0 done (IsAway-path rest above.1 (done + 1))

-- and before the order at which it stops
pub away_to_stop : {k : ℕ} {s t : State} {cs : List ℕ} → Leads k s cs t → IsAway k s → t.counter ≢ 25 → IsAway (k + 1) s
away_to_stop {k} {s} leads before last j l = search (rules, cases_lt)

module _ (left : ℕ) (s : State) where
  under_way : (k : ℕ) → k < left → (progress k s).stops ≡ 0 → is_obeyed (step (state_after k s)).turn ≡ true
      → (state_after k s).counter ≢ 25 → IsUnderWay left k s
  under_way k below none obeyed place = grind (arith, common_steps)

  -- it leads back to the Initial Orders
  pub comes_home : {k : ℕ} {t : State} {cs : List ℕ} → Leads k s cs t → IsAway k s → k ≤ left → IsReturned t
      → ReturnsToLoader left k s
  comes_home {k} leads far fits home = record {
    runs = λ j l.
        under_way j (omega arith) (no_stops j s (λ i m. leads.goes i (omega arith)))
        (obeyed_of _ (leads.goes j l)) (far j l);
    stops = no_stops k s leads.goes;
    home = subst (λ (x : State). IsReturned x) (sym leads.state_is) home;
  }

  -- it reaches its stop
  pub finishes : {k at : ℕ} {cs : List ℕ} → ReachesStop k s cs at → IsAway (k + 1) s → k + 1 ≤ left
      → Finishes left (k + 1) s Stopped
  finishes {k} o far fits = record { runs = runs; ends = ends; stopped = λ home. refl }
    where
      turn : (step (state_after k s)).turn ≡ Stops
      turn = ap (λ (x : State). (step x).turn) o.leads.state_is ∙ o.stops

      none : (progress k s).stops ≡ 0
      none = no_stops k s o.leads.goes

      obeyed : (j : ℕ) → j < k + 1 → is_obeyed (step (state_after j s)).turn ≡ true
      obeyed j l = elim (cases_lt j k) [
        | inl below ↦ obeyed_of _ (o.leads.goes j below)
        | inr here ↦ let e : k ≡ j = omega arith in
            subst (λ n. is_obeyed (step (state_after n s)).turn ≡ true) e (ap is_obeyed turn)
      ]

      runs : RunsOn left (k + 1) s
      runs j l = under_way j (omega arith) (no_stops j s (λ i m. o.leads.goes i (omega arith))) (obeyed j l) (far j l)

      some : 0 < (progress (k + 1) s).stops
      some = let one = ap stops_of turn in omega (arith, next_stops k s, none, one)

      ends : program_end left (k + 1) s ≡ Some Stopped
      ends = let a = lt-ltb 0 (progress (k + 1) s).stops some in rw a refl

-- ---- a tape

-- the course of a tape whose interlude is entered and returns, and whose program is entered and reaches its stop
pub record Course (z : Size) (tape_rows : List ℕ) (at : ℕ) (printed : List ℕ) : Type 0 where
  pub interlude : TapeEntry
  pub reads : ReachesEntry (first_state z tape_rows) interlude
  pub back : State
  pub orders : ℕ
  pub leads : Leads orders (at_entry (first_state z tape_rows) interlude) [] back
  pub away : IsAway orders (at_entry (first_state z tape_rows) interlude)
  pub returned : IsReturned back
  pub is_store : IsStore back.store
  pub left : back.tape ≡ interlude.rest
  pub program : TapeEntry
  pub reads_on : ReachesNextEntry back program
  pub orders_on : ℕ
  pub stops : ReachesStop orders_on (at_entry back program) printed at
  pub stays_away : IsAway (orders_on + 1) (at_entry back program)

-- the same in plain numbers
abbrev pub numbers_of : {z : Size} {tape_rows : List ℕ} {at : ℕ} {printed : List ℕ} → Course z tape_rows at printed
    → TwoParts
numbers_of {at = at} c = record {
  interlude = part c.interlude.at c.interlude.cost c.interlude.rows c.orders;
  returns_for = address (directive c.back);
  program = part c.program.at c.program.cost c.program.rows (c.orders_on + 1);
  stop = at;
}

module _ {z : Size} {tape_rows : List ℕ} {at : ℕ} {printed : List ℕ} (c : Course z tape_rows at printed) where
  abbrev t : TwoParts
  t = numbers_of c

  abbrev start : State
  start = first_state z tape_rows

  fresh : (start.tape ≡ tape_rows) × (start.orders ≡ 0)
  unfolding first_state
  fresh = (refl, refl)

  first : LeadsIn start c.interlude
  first = comes_in start c.interlude (first_store z tape_rows) (IsStarted-first_state z tape_rows) c.reads

  second : LeadsIn c.back c.program
  second = leads_back c.back c.program c.is_store c.returned c.reads_on

  count : c.back.orders ≡ orders_to_return t
  count =
      let there = ap (λ (x : State). x.orders) (sym c.leads.state_is) in
      let counted = counted_after c.orders (at_entry start c.interlude) (AreObeyed-leads c.leads) in
      let none = fresh.1 in
      omega (arith, there, counted, none)

  read : length start.tape ≡ c.interlude.rows + length c.back.tape
  read = search (rules, length-append)

  -- ---- `parts`

  module _ (limit : ℕ) (fits : orders_to_stop t ≤ limit) where
    abbrev one : TapePart
    one = first_part start

    abbrev goes_back : GoesBack limit one
    goes_back = record {
      entry = c.interlude;
      leads = record { well = c.reads.well; comes = c.reads.comes };
      within = omega (arith, fits);
      orders = c.orders;
      comes = subst (λ (x : State). ReturnsToLoader (limit - entry_done one c.interlude) c.orders x) (sym first.arrives)
          (comes_home _ _ c.leads c.away (omega (arith, fits)) c.returned);
    }

    abbrev two : TapePart
    two = part_after one goes_back

    there : two.state ≡ c.back
    there = ap (state_after c.orders) first.arrives ∙ c.leads.state_is

    leads_on : LeadsTo two c.program
    leads_on = search (rules, there)

    entered : part_entry_state two c.program ≡ at_entry c.back c.program
    entered = ap (state_after c.program.cost) there ∙ second.arrives

    abbrev end : PartsReport
    end = record {
      text = entry_report (length start.tape) two c.program;
      end = Ended Stopped;
      last = state_after (c.orders_on + 1) (part_entry_state two c.program);
    }

    concludes : Concludes limit (length start.tape) two end
    concludes =
        finished c.program (c.orders_on + 1) Stopped leads_on (omega (arith, fits))
        (subst (λ (x : State). Finishes (limit - entry_done two c.program) (c.orders_on + 1) x Stopped) (sym entered)
        (finishes _ _ c.stops c.stays_away (omega (arith, fits))))
        refl

    abbrev whole : PartsReport
    whole = record end { text = part_report (length start.tape) one goes_back ++ end.text }

    tells : IsReportOfTape limit start whole
    tells = record { returns = 1; told = (goes_back, end, concludes, refl) }

    last_is : end.last ≡ (step c.stops.last).state
    last_is =
        ap (state_after (c.orders_on + 1)) entered
        ∙ sym (next_state c.orders_on (at_entry c.back c.program) refl refl)
        ∙ ap (λ (x : State). (step x).state) c.stops.leads.state_is

    lines : whole.text ≡ two_parts_lines t
    lines =
        let none : 0 + c.interlude.cost ≡ c.interlude.cost = omega arith in
        let some : length start.tape - length start.tape + c.interlude.rows ≡ c.interlude.rows = omega arith in
        let far = ap (λ (x : State). length x.tape) there in
        let more : length start.tape - length two.state.tape + c.program.rows ≡ c.interlude.rows + c.program.rows =
        omega (arith, read, far) in
        search (rules, there, append_assoc)

    note : at_after (codes "stopped") end.last.counter end.last.orders ++ 10 ∷ [] ≡ two_parts_note t
    note = search (rules, last_is, count)

  -- ---- `tape`

  loads : {s : State} {e : TapeEntry} → LeadsIn s e → Leads e.cost s [] (at_entry s e)
  loads l = search (rules, goes_on)

  to_stop : ReachesStop (orders_to_program t + c.orders_on) start printed at
  to_stop =
      let none = fresh.1 in
      stop_after (Leads-append (Leads-append (loads first) c.leads) (loads second)) (omega (arith, count, none)) c.stops

-- a text that spells the rows of such a tape
pub two_parts_run : (s : Settings) (tape : Text) (tape_rows : List ℕ) {at : ℕ} {printed : List ℕ}
    → reading tape ≡ rows tape_rows → length tape ≤ INPUT_BYTES → (c : Course s.size tape_rows at printed)
    → length printed ≤ paper_room → TwoPartsRun s tape (numbers_of c) (paper printed)
two_parts_run s tape tape_rows {at} {printed} reads short c few =
    let t : TwoParts = numbers_of c in
    record {
      codes_of = tape_rows;
      spelled = reads;
      parts = λ fits.
          let due : Outcome = record { out = two_parts_lines t; note = two_parts_note t; status = 0 } in
          let told : IsInParts s tape_rows due = record {
            told = whole c s.limit fits;
            tells = tells c s.limit fits;
            outcome = λ i. record { out = lines c s.limit fits i; note = note c s.limit fits i; status = 0 };
          } in
          inl (short, subst (λ r. OfReading (IsInParts s) r due) (sym reads) told);
      whole = λ no_resumes plain fits.
          let due : Outcome = record { out = paper printed; note = two_parts_note t; status = 0 } in
          let first : State = first_state s.size tape_rows in
          let o = to_stop c in
          let none = (fresh c).1 in
          let count : (step o.last).state.orders ≡ orders_to_stop t = omega (arith, o.orders, none) in
          let ended = ran_to_stop s.limit paper_room (orders_to_program t + c.orders_on) first printed o few
          (omega (arith, fits)) in
          let answer : tape_outcome s tape_rows ≡ due =
          (λ i. ran_outcome [] (with_post_mortem (plain i) (run_end s.limit (no_resumes i) paper_room first)))
          ∙ ap (ran_outcome []) (nothing_after (run_end s.limit 0 paper_room first))
          ∙ ran_outcome-answered [] (run_end s.limit 0 paper_room first) ended o.counter count in
          inl (short, subst (λ r. OfReading (exactly (tape_outcome s)) r due) (sym reads) answer);
    }
