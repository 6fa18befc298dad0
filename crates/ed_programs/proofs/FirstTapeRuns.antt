-- The outcome of a tape of May 1949 whose program reaches its stop, as the answer of the command `tape1`.
use Rattle.ed_programs.proofs.Kit.{rules, String, Global, Settings, at_entry1, Item1, Err, Result, rows, INPUT_BYTES}
use Rattle.ed_programs.proofs.Kit.{exactly, OfReading, [], arith, Bool, codes, false, inl, length, List, nat_le, nat_lt}
use Rattle.ed_programs.proofs.Kit.{None, Ok, refl, subst, sym, true, ℕ, ◌++◌, ◌+◌, ◌-◌, ◌∙◌, ◌∷◌, ◌≡◌, ◌≤◌, list_all}
use Rattle.ed_programs.proofs.Kit.{and_parts, leb-true, ltb-true, Text, paper, step, State, run_end, ReachesStop}
use Rattle.ed_programs.proofs.Kit.{at_after, ran_outcome-answered, ran_to_stop, ◌&&◌, reading, AreDigits, ReachesEntry1}
use Rattle.ed_programs.proofs.Kit.{Tape, first_state1, Outcome, paper_room, ran_outcome, FirstTapeRuns, GivesProgram}
use Rattle.ed_programs.proofs.Kit.{Refusal}
use Rattle.ed_initial1.specs.Items.{AreItems, item_number}
use Rattle.ed_laws.specs.FirstEntry.{cost1}
use Rattle.ed_tapes.specs.FirstOrders.{tape1_outcome}
use Rattle.ed_laws.proofs.FirstEntries.{runs_from_31}
use Rattle.ed_programs.specs.FirstTapes.{FirstTapePrints}

-- ---- items, by one test

-- an item that ends with S
abbrev pub short_item : ℕ → List ℕ → Item1
short_item function digits = record { begun = record { function = function; digits = digits }; long = false }

abbrev pub is_item : Item1 → Bool
is_item i =
    nat_lt i.begun.function 32 && (list_all (λ d. nat_lt d 10) i.begun.digits && nat_le (item_number i) 32767)

are_digits : (ds : List ℕ) → list_all (λ d. nat_lt d 10) ds ≡ true → AreDigits ds
are_digits [] h = tt
are_digits (d ∷ ds) h = search (rules, are_digits ds, and_parts, ltb-true)

pub are_items : (is : List Item1) → list_all is_item is ≡ true → AreItems is
are_items [] h = tt
are_items (i ∷ is) h =
    search (rules, are_digits, are_items is, and_parts, ltb-true, leb-true)

-- ---- the run from 31

-- no order has been obeyed at the start
fresh : (tape_rows : List ℕ) → (first_state1 tape_rows).orders ≡ 0
unfolding first_state1
fresh tape_rows = refl

-- a text that spells rows that give a program, which reaches its stop from its entry
pub first_tape_runs : (s : Settings) (tape : Text) (tape_rows : List ℕ) (t : Tape) {k at : ℕ} {printed : List ℕ}
    → reading tape ≡ rows tape_rows → length tape ≤ INPUT_BYTES → ReachesEntry1 tape_rows t
    → ReachesStop k (at_entry1 (first_state1 tape_rows) t) printed at → length printed ≤ paper_room
    → FirstTapeRuns s tape (cost1 t) (k + 1) at (paper printed)
first_tape_runs s tape tape_rows t {k} {at} {printed} reads short o stops few =
    let first : State = first_state1 tape_rows in
    let entry : State = at_entry1 first t in
    let left : ℕ = s.limit - cost1 t in
    let none = fresh tape_rows in
    let count : (step stops.last).state.orders ≡ cost1 t + (k + 1) = omega (arith, stops.orders, none) in
    record {
      codes_of = tape_rows;
      spelled = reads;
      program = t;
      comes = o;
      cost_is = refl;
      outcome = λ no_resumes fits.
          let ended = ran_to_stop left paper_room k entry printed stops few (omega (arith, fits)) in
          let due : Outcome = record {
            out = paper printed;
            note = at_after (codes "stopped") at (cost1 t + (k + 1)) ++ 10 ∷ [];
            status = 0;
          } in
          let answer : tape1_outcome s tape_rows ≡ due =
          (runs_from_31 s tape_rows t o).runs (omega (arith, fits))
          ∙ (λ i. ran_outcome [] (run_end left (no_resumes i) paper_room entry))
          ∙ ran_outcome-answered [] (run_end left 0 paper_room entry) ended stops.counter count in
          inl (short, subst (λ r. OfReading (exactly (tape1_outcome s)) r due) (sym reads) answer);
    }

-- a law of a tape's text is one of the text that is answered
pub first_tape_prints_of : {cost orders at : ℕ} {tape printed : Text} (r : Result (String Global) Refusal)
    → GivesProgram None tape r → ((s : Settings) → FirstTapeRuns s tape cost orders at printed)
    → FirstTapePrints cost orders at printed r
first_tape_prints_of (Ok text) gives law = search rules
first_tape_prints_of (Err refusal) gives law = tt
