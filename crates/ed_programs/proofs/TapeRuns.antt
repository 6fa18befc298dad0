-- The outcome of a tape whose program reaches its stop, as the answer of the command `tape`.
use Rattle.ed_programs.proofs.Kit.{rules, plain, NotationState, String, Global, Size, has_one_reading, Settings}
use Rattle.ed_programs.proofs.Kit.{ReachesEntry, comes_in, Err, Result, rows, Spells, INPUT_BYTES, exactly, OfReading}
use Rattle.ed_programs.proofs.Kit.{[], ap, arith, codes, inl, length, List, None, Ok, refl, subst, sym, ℕ, ◌++◌, ◌+◌}
use Rattle.ed_programs.proofs.Kit.{◌-◌, ◌∙◌, ◌∷◌, ◌≡◌, ◌≤◌, Text, paper, step, State, run_end, ReachesStop, at_after}
use Rattle.ed_programs.proofs.Kit.{ran_outcome-answered, nothing_after, ran_to_stop, tape_state, reading, TapeEntry}
use Rattle.ed_programs.proofs.Kit.{opening, reading_on, first_state, LeadsIn, first_store, IsStarted-first_state}
use Rattle.ed_programs.proofs.Kit.{Outcome, paper_room, ran_outcome, with_post_mortem, tape_outcome, GivesProgram}
use Rattle.ed_programs.proofs.Kit.{TapeRuns, Refusal}
use Rattle.ed_laws.proofs.Kit.{cleared_cells, RunEnd, ran_later, Arrived, first_directive, reading_is_rules, run_of}
use Rattle.ed_laws.proofs.Kit.{opening_notation}
use Rattle.ed_codes.specs.Reading.{IsReadingOf, no_row, open_comment}
use Rattle.ed_programs.specs.Tapes.{TapePrints}

-- a text whose reading is rows spells them
pub reads_spell : (text : Text) (codes : List ℕ) → reading text ≡ rows codes → Spells text codes
reads_spell text codes is = subst (IsReadingOf text) is (has_one_reading.every text)

-- the rows of a text, none if it has a fault
abbrev pub rows_in : Text → List ℕ
rows_in text = elim (reading text) [ rows codes ↦ codes | no_row place byte ↦ [] | open_comment place ↦ [] ]

-- an entry item P F that ends a tape's first rows
abbrev pub entry_with : (at cost read : ℕ) → NotationState → List ℕ → TapeEntry
entry_with at cost read n rest =
    record { at = at; word = 0; cost = cost; rows = read; notation = n; last = plain 0 0 17; rest = rest }

-- rows are read to an entry from a cleared store, and from the store after Start, where the reading of the Initial
-- Orders begins; both are computed
pub record Arrives (z : Size) (tape_rows : List ℕ) (e : TapeEntry) : Type 0 where
  pub cleared : reading_on z cleared_cells.words 0 9 opening_notation None tape_rows ≡ Arrived e
  pub started : reading_on z (first_state z tape_rows).store.words 0 9
      (opening (first_state z tape_rows).store.words) None tape_rows ≡ Arrived e

module _ {z : Size} {tape_rows : List ℕ} {e : TapeEntry} (o : Arrives z tape_rows e) where
  abbrev first : State
  first = first_state z tape_rows

  fresh : (first.size ≡ z) × (first.tape ≡ tape_rows) × (first.orders ≡ 0)
  unfolding first_state
  fresh = (refl, refl, refl)

  comes_on : ReachesEntry first e
  unfolding first_state
  comes_on =
      let rules = reading_is_rules z first.store.words (opening first.store.words) 9 tape_rows first_directive in
      record { well = rules.well e o.started; comes = rules.comes e o.started }

  leads_on : LeadsIn first e
  leads_on = comes_in first e (first_store z tape_rows) (IsStarted-first_state z tape_rows) comes_on

-- a text that spells these rows, which reach this entry, and whose program reaches its stop from there
pub tape_runs : (s : Settings) (tape : Text) (tape_rows : List ℕ) (e : TapeEntry) {k orders at : ℕ} {printed : List ℕ}
    {text : Text} → reading tape ≡ rows tape_rows → length tape ≤ INPUT_BYTES → Arrives s.size tape_rows e
    → ReachesStop k (tape_state s tape_rows e) printed at → length printed ≤ paper_room → k + 1 ≡ orders
    → paper printed ≡ text → TapeRuns s tape e.cost orders at text
tape_runs s tape tape_rows e {k} {orders} {at} {printed} reads short arrives stops few total shown =
    let rules = reading_is_rules s.size cleared_cells.words opening_notation 9 tape_rows first_directive in
    let in_order = leads_on arrives in
    let first : State = tape_state s tape_rows e in
    let left : ℕ = s.limit - e.cost in
    let none = (fresh arrives).2 in
    let count : (step stops.last).state.orders ≡ e.cost + orders = omega (arith, stops.orders, none) in
    subst (λ (t : Text). TapeRuns s tape e.cost orders at t) shown (record {
      codes_of = tape_rows;
      spelled = reads;
      entry = e;
      well = rules.well e arrives.cleared;
      comes = rules.comes e arrives.cleared;
      cost_is = refl;
      outcome = λ no_resumes plain fits.
          let ended = ran_to_stop left paper_room k first printed stops few (omega (arith, fits)) in
          let whole : run_of s tape_rows ≡ run_end left 0 paper_room first =
          ran_later s.limit s.resumes paper_room e.cost (first_state s.size tape_rows) in_order.went
          (omega (arith, fits))
          ∙ (λ i. run_end left (no_resumes i) paper_room (in_order.arrives i)) in
          let answer = ap (λ (r : RunEnd). ran_outcome [] (with_post_mortem s.post_mortem r)) whole
          ∙ (λ i. ran_outcome [] (with_post_mortem (plain i) (run_end left 0 paper_room first)))
          ∙ ap (ran_outcome []) (nothing_after (run_end left 0 paper_room first))
          ∙ ran_outcome-answered [] (run_end left 0 paper_room first) ended stops.counter count in
          let due : Outcome = record {
            out = paper printed;
            note = at_after (codes "stopped") at (e.cost + orders) ++ 10 ∷ [];
            status = 0;
          } in
          inl (short, subst (λ r. OfReading (exactly (tape_outcome s)) r due) (sym reads) answer);
    })

-- a law of a tape's text is one of the text that is answered
pub tape_prints_of : {cost orders at : ℕ} {tape printed : Text} (r : Result (String Global) Refusal)
    → GivesProgram None tape r → ((s : Settings) → TapeRuns s tape cost orders at printed)
    → TapePrints cost orders at printed r
tape_prints_of (Ok text) gives law = search rules
tape_prints_of (Err refusal) gives law = tt
