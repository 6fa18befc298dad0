-- Blank tape before a tape, tapes of the two loaders, and what loading costs at most.
use Rattle.ed_laws.proofs.Kit.{common_steps, Size, cleared_cells, Settings, BadRow, PartialItem, RowEffect, Ended}
use Rattle.ed_laws.proofs.Kit.{first_directive, length-append, ◌%◌, ◌*◌, ◌/◌, le-ltb, RowsReachEntry, WellFormed}
use Rattle.ed_laws.proofs.Kit.{NotationState, AreDigits, Begun, digits_number, row_kind, rows_of, Arrived, Faulty}
use Rattle.ed_laws.proofs.Kit.{part_of, reading_on, row_effect, setting_of, Verdict, with_limit, opening_notation, []}
use Rattle.ed_laws.proofs.Kit.{ap, append-nil, append_assoc, arith, Bool, false, length, List, nat_lt, None, Option}
use Rattle.ed_laws.proofs.Kit.{refl, replicate, rules, Some, subst, suc, sym, true, ℕ, ◌++◌, ◌+◌, ◌-◌, ◌^◌, ◌∙◌, ◌∷◌}
use Rattle.ed_laws.proofs.Kit.{◌≡◌, ◌≤◌, Text, reading, run_end, ran_later, TapeEntry, over, first_state, ReachesEntry1}
use Rattle.ed_laws.proofs.Kit.{Tape, paper_room, run_of, zero, reading_is_rules, LeadsIn, end_later}
use Rattle.ed_initial1.proofs.Kit.{number_le, BeginsWith, AreItems, begun_rows1, ending_row, IsBegun1, IsFirst, Item1}
use Rattle.ed_initial1.proofs.Kit.{rows_of1, spelled_rows1}
use Rattle.std.proofs.lemmas.Bool.{lt-ltb}
use Rattle.ed_codes.specs.Reading.{IsReadingOf, Reading, rows}
use Rattle.ed_codes.proofs.Pieces.{few_rows}
use Rattle.ed_codes.proofs.Readings.{has_one_reading}
use Rattle.ed_notation.specs.Items.{begun_rows}
use Rattle.ed_notation.proofs.Costs.{cost-most}
use Rattle.ed_initial.specs.Entry.{at_entry}
use Rattle.ed_laws.specs.TapeFacts.{BeginsAtPlace, BlankTapeIsPassed, NotationFacts, blank_cost, blank_tape}
use Rattle.ed_laws.specs.TapeFacts.{entry_later}
use Rattle.ed_laws.proofs.CountedRuns.{counted, run_same}
use Rattle.ed_laws.proofs.TapeEntries.{LeadsIn-first_state, on_function, on_row}

-- ---- the cost of a text

text_few : (r : Reading) (text tape : List ℕ) → IsReadingOf text r → r ≡ rows tape → length tape ≤ length text
text_few (rows codes) text tape spells is = search (rules, few_rows)
text_few r text tape spells is = absurd (cc)

cheap : (text : Text) (tape : List ℕ) (e : TapeEntry) → reading text ≡ rows tape → length text ≤ 262144
    → RowsReachEntry cleared_cells.words opening_notation 9 tape e → e.cost ≤ 4456457
cheap text tape e is short comes =
    let few = text_few (reading text) text tape (has_one_reading.every text) is in
    let all : length tape ≡ e.rows + length e.rest =
    ap length (comes.rows_are ∙ sym (append_assoc _ (rows_of comes.last) e.rest)) ∙ length-append _ e.rest
    ∙ ap (λ n. n + length e.rest) (length-append _ (rows_of comes.last) ∙ sym comes.read_is) in
    omega (arith, few, short, all, cost-most cleared_cells.words opening_notation 9 tape e comes)

-- ---- no tape is one for both loaders

-- S, the row 12, ends no item of the 41 orders
first_breaks : (z : Size) (tape : List ℕ) (t : Tape) → (is : List Item1) → t.items ≡ is → ReachesEntry1 tape t
    → WellFormed z cleared_cells.words opening_notation tape → ⊥
first_breaks z tape t [] none comes well = subst (λ (is : List Item1). BeginsWith t.end is) none comes.first
first_breaks z tape t (i ∷ is) some comes well =
    let first : IsFirst t.end i = subst (λ (js : List Item1). BeginsWith t.end js) some comes.first in
    let good : IsBegun1 i.begun = (subst AreItems some comes.good).0 in
    let b : Begun = record { function = i.begun.function; digits = i.begun.digits; mark = false } in
    let rest = spelled_rows1 is ++ t.rest in
    let spelled : tape ≡ begun_rows1 i.begun ++ (12 ∷ rest) =
    comes.rows_are
    ∙ ap (λ (js : List Item1). spelled_rows1 js ++ t.rest) some
    ∙ append_assoc (rows_of1 i) (spelled_rows1 is) t.rest
    ∙ append_assoc (begun_rows1 i.begun) (ending_row i.long ∷ []) rest
    ∙ ap (λ (long : Bool). begun_rows1 i.begun ++ (ending_row long ∷ rest)) first.short in
    let plain : begun_rows b ≡ begun_rows1 i.begun =
    ap (λ (ds : List ℕ). i.begun.function ∷ ds) (append-nil i.begun.digits) in
    well (length (begun_rows b)) BadRow (record {
      stands = record {
        before = [];
        part = Some b;
        rest = 12 ∷ rest;
        are_read = tt;
        is_part = record { function = good.function; digits = good.digits; fits = good.fits };
        rows_are = spelled ∙ ap (λ (xs : List ℕ). xs ++ (12 ∷ rest)) (sym plain);
        row_is = omega arith;
      };
      breaks = refl;
    })

for_one_loader : (z : Size) (tape : List ℕ) (t : Tape) → ReachesEntry1 tape t
    → WellFormed z cleared_cells.words opening_notation tape → ⊥
for_one_loader z tape t comes well = first_breaks z tape t t.items refl comes well

-- ---- a reading that begins later

-- the result, a rows and b orders later
abbrev later : ℕ → ℕ → Verdict → Verdict
later a b (Faulty row cause) = Faulty (row + a) cause
later a b (Arrived e) = Arrived (record e { cost = e.cost + b; rows = e.rows + a })

module _ (z : Size) (words : List ℕ) (a b : ℕ) where
  module _ (rest : List ℕ) (ih : (row cost : ℕ) (notation : NotationState) (part : Option PartialItem)
      → reading_on z words (row + a) (cost + b) notation part rest
      ≡ later a b (reading_on z words row cost notation part rest)) (row cost : ℕ) where
    next : row + a + 1 ≡ row + 1 + a
    next = omega arith

    more : (k : ℕ) → cost + b + k ≡ cost + k + b
    more k = omega arith

    go : (k : ℕ) (notation : NotationState) (part : Option PartialItem)
        → reading_on z words (row + a + 1) (cost + b + k) notation part rest
        ≡ later a b (reading_on z words (row + 1) (cost + k) notation part rest)
    go k notation part =
        (λ i. reading_on z words (next i) (more k i) notation part rest) ∙ ih (row + 1) (cost + k) notation part

    row_later : (notation : NotationState) (part : PartialItem) (c : ℕ) (t : RowEffect)
        → on_row z words (row + a) (cost + b) notation part c rest t
        ≡ later a b (on_row z words row cost notation part c rest t)
    row_later notation part c t = search rules

    function_later : (notation : NotationState) (f : ℕ) (t : Bool)
        → on_function z words (row + a) (cost + b) notation f rest t
        ≡ later a b (on_function z words row cost notation f rest t)
    function_later notation f true = go 6 notation (Some (part_of f))
    function_later notation f false = refl

  reads_later : (rest : List ℕ) (row cost : ℕ) (notation : NotationState) (part : Option PartialItem)
      → reading_on z words (row + a) (cost + b) notation part rest
      ≡ later a b (reading_on z words row cost notation part rest)
  unfolding reading_on
  reads_later [] row cost notation part = refl
  reads_later (f ∷ rest) row cost notation None =
      function_later rest (reads_later rest) row cost notation f (nat_lt f 32)
  reads_later (c ∷ rest) row cost notation (Some part) =
      row_later rest (reads_later rest) row cost notation part c
      (row_effect z (row_kind c) (over notation.placed words) (setting_of notation) part c)

-- ---- digits

-- an item with this function and number so far
abbrev item_so_far : ℕ → ℕ → Bool → PartialItem
item_so_far f n blank = record { function = f; number = n; mark = false; blank = blank }

module _ (z : Size) (words : List ℕ) (f : ℕ) (m : NotationState) where
  digits_read : (ds rest : List ℕ) (n : ℕ) (blank : Bool) (row cost : ℕ) → AreDigits ds → digits_number n ds ≤ 32767
      → (left : Bool) × (reading_on z words row cost m (Some (item_so_far f n blank)) (ds ++ rest)
      ≡ reading_on z words (row + length ds) (cost + 9 * length ds) m
      (Some (item_so_far f (digits_number n ds) left)) rest)
  unfolding reading_on
  digits_read [] rest n blank row cost are fits =
      let r : row ≡ row + 0 = omega arith in
      let k : cost ≡ cost + 0 = omega arith in
      (blank, λ i. reading_on z words (r i) (k i) m (Some (item_so_far f n blank)) rest)
  digits_read (d ∷ ds) rest n blank row cost are fits =
      let more = digits_read ds rest (10 * n + d) false (row + 1) (cost + 9) are.1 fits in
      search (rules, number_le, lt-ltb, le-ltb, more)

-- ---- the blank tape

one_more_blank : (n : ℕ) (rest : List ℕ) → replicate (n + 1) 16 ++ rest ≡ replicate n 16 ++ (16 ∷ rest)
one_more_blank zero rest = refl
one_more_blank (suc n) rest =
    let one : suc n + 1 ≡ suc (n + 1) = omega arith in
    ap (λ k. replicate k 16 ++ rest) one ∙ ap (λ (xs : List ℕ). 16 ∷ xs) (one_more_blank n rest)

blanks_before : (n : ℕ) (end rest : List ℕ)
    → (replicate (n + 1) 16 ++ end) ++ rest ≡ replicate n 16 ++ (16 ∷ (end ++ rest))
blanks_before n end rest = append_assoc (replicate (n + 1) 16) end rest ∙ one_more_blank n (end ++ rest)

module _ (z : Size) (words : List ℕ) where
  -- two blanks
  pairs_read : (k : ℕ) (rest : List ℕ) (row cost : ℕ) (n : NotationState)
      → (theta : ℕ) × (reading_on z words row cost n None (replicate (2 * k) 16 ++ rest)
      ≡ reading_on z words (row + 2 * k) (cost + 20 * k) (record n { theta = theta }) None rest)
  unfolding reading_on
  pairs_read zero rest row cost n =
      let r : row ≡ row + 0 = omega arith in
      let c : cost ≡ cost + 0 = omega arith in
      (n.theta, λ i. reading_on z words (r i) (c i) n None rest)
  pairs_read (suc k) rest row cost n =
      let two : 2 * suc k ≡ suc (suc (2 * k)) = omega arith in
      let on = pairs_read k rest (row + 1 + 1) (cost + 6 + 14) (record n { theta = n.directive }) in
      let r : row + 1 + 1 + 2 * k ≡ row + 2 * suc k = omega arith in
      let c : cost + 6 + 14 + 20 * k ≡ cost + 20 * suc k = omega arith in (
        on.0,
        ap (λ m. reading_on z words row cost n None (replicate m 16 ++ rest)) two ∙ on.1
            ∙ (λ i. reading_on z words (r i) (c i) (record n { theta = on.0 }) None rest),
      )

  -- what it leaves: some directive and some θ, and no word placed
  record Passed (m : ℕ) (rest : List ℕ) (row cost : ℕ) (n : NotationState) : Type 0 where
    pub directive : ℕ
    pub theta : ℕ
    pub reads : reading_on z words row cost n None (blank_tape m ++ rest)
        ≡ reading_on z words (row + (m + 2)) (cost + blank_cost m)
        (record { directive = directive; theta = theta; placed = n.placed }) None rest

  even_passed : (k : ℕ) (rest : List ℕ) (row cost : ℕ) (n : NotationState) → Passed (2 * k) rest row cost n
  unfolding reading_on
  even_passed k rest row cost n =
      let p = pairs_read k (0 ∷ 14 ∷ rest) row cost n in
      let r : row + 2 * k + 1 + 1 ≡ row + (2 * k + 2) = omega arith in
      let none : 2 * k % 2 ≡ 0 = omega arith in
      let half : 2 * k / 2 ≡ k = omega arith in
      let c : cost + 20 * k + 6 + 16 ≡ cost + blank_cost (2 * k) = rw (none, half) (omega arith) in
      record {
        directive = 0;
        theta = p.0;
        reads = ap (reading_on z words row cost n None) (append_assoc (replicate (2 * k) 16) (0 ∷ 14 ∷ []) rest)
            ∙ p.1
            ∙ (λ i. reading_on z words (r i) (c i)
            (record { directive = 0; theta = p.0; placed = n.placed }) None rest);
      }

  odd_passed : (k : ℕ) (rest : List ℕ) (row cost : ℕ) (n : NotationState) → Passed (2 * k + 1) rest row cost n
  unfolding reading_on
  odd_passed k rest row cost n =
      let p = pairs_read k (16 ∷ 0 ∷ 14 ∷ rest) row cost n in
      let r : row + 2 * k + 1 + 1 + 1 ≡ row + (2 * k + 1 + 2) = omega arith in
      let one : (2 * k + 1) % 2 ≡ 1 = omega arith in
      let half : (2 * k + 1) / 2 ≡ k = omega arith in
      let c : cost + 20 * k + 6 + 9 + 16 ≡ cost + blank_cost (2 * k + 1) = rw (one, half) (omega arith) in
      let theta = (4096 * 16 + 2 * 0 + n.directive) % 2 ^ 17 in
      record {
        directive = n.directive;
        theta = theta;
        reads = ap (reading_on z words row cost n None) (blanks_before (2 * k) (0 ∷ 14 ∷ []) rest)
            ∙ p.1
            ∙ (λ i. reading_on z words (r i) (c i)
            (record { directive = n.directive; theta = theta; placed = n.placed }) None rest);
      }

  passed : (m : ℕ) (rest : List ℕ) (row cost : ℕ) (n : NotationState) → Passed m rest row cost n
  passed m rest row cost n =
      grind (arith, common_steps, (even_passed (m / 2) rest row cost n), (odd_passed (m / 2) rest row cost n))

  -- T n K G K sets the directive and θ, whatever they were
  set_anew : (row cost : ℕ) (n : NotationState) (tape : List ℕ) (b : BeginsAtPlace tape) (directive theta : ℕ)
      → reading_on z words row cost (record { directive = directive; theta = theta; placed = n.placed }) None tape
      ≡ reading_on z words row cost n None tape
  unfolding reading_on
  set_anew row cost n tape b directive theta = from directive theta ∙ sym (from n.directive n.theta)
    where
      number : ℕ
      number = digits_number 0 b.digits

      after : ℕ
      after = 9 * length b.digits

      set : NotationState
      set = record {
        directive = 4096 * 5 + 2 * number;
        theta = (4096 * 27 + 2 * 0 + (4096 * 5 + 2 * number)) % 2 ^ 17;
        placed = n.placed;
      }

      from : (d t : ℕ)
          → reading_on z words row cost (record { directive = d; theta = t; placed = n.placed }) None tape
          ≡ reading_on z words (row + 1 + length b.digits + 1 + 1 + 1) (cost + 6 + after + 16 + 6 + 16) set None b.rest
      from d t =
          let m : NotationState = record { directive = d; theta = t; placed = n.placed } in
          let fits : nat_lt 1023 number ≡ false = le-ltb 1023 number b.fits in
          let more = 14 ∷ 27 ∷ 14 ∷ b.rest in
          let on =
          digits_read z words 5 m b.digits more 0 false (row + 1) (cost + 6) b.are_digits (omega (arith, b.fits)) in
          let part = item_so_far 5 number on.0 in
          let sets : row_effect z (row_kind 14) (over m.placed words) (setting_of m) part 14
          ≡ Ended (record { directive = 4096 * 5 + 2 * number; theta = t }) 16 = rw fits refl in
          ap (reading_on z words row cost m None) b.rows_are ∙ on.1
          ∙ ap (on_row z words (row + 1 + length b.digits) (cost + 6 + after) m part 14 (27 ∷ 14 ∷ b.rest)) sets

-- ---- a tape after it

module _ (s : Settings) (tape : List ℕ) (e : TapeEntry) (m : ℕ)
    (well : WellFormed s.size cleared_cells.words opening_notation tape)
    (to : RowsReachEntry cleared_cells.words opening_notation 9 tape e) (begins : BeginsAtPlace tape) where
  abbrev words : List ℕ
  words = cleared_cells.words

  abbrev whole : List ℕ
  whole = blank_tape m ++ tape

  arrives : reading_on s.size words 0 9 opening_notation None whole ≡ Arrived (entry_later m e)
  arrives =
      let p = passed s.size words m tape 0 9 opening_notation in
      p.reads
      ∙ set_anew s.size words (0 + (m + 2)) (9 + blank_cost m) opening_notation tape begins p.directive p.theta
      ∙ reads_later s.size words (m + 2) (blank_cost m) tape 0 9 opening_notation None
      ∙ ap (later (m + 2) (blank_cost m)) ((reading_is_rules s.size words opening_notation 9 tape
      first_directive).arrived e well to)

  well_too : WellFormed s.size words opening_notation whole
  well_too = (reading_is_rules s.size words opening_notation 9 whole first_directive).well (entry_later m e) arrives

  comes_too : RowsReachEntry words opening_notation 9 whole (entry_later m e)
  comes_too = (reading_is_rules s.size words opening_notation 9 whole first_directive).comes (entry_later m e) arrives

  state_there : at_entry (first_state s.size whole) (entry_later m e)
      ≡ counted (blank_cost m) (at_entry (first_state s.size tape) e)
  unfolding first_state
  state_there = search rules

  runs : e.cost ≤ s.limit
      → run_of (with_limit (s.limit + blank_cost m) s) whole ≡ end_later (blank_cost m) (run_of s tape)
  runs fits =
      let k = blank_cost m in
      let into : LeadsIn (first_state s.size tape) e = LeadsIn-first_state s.size tape e well to in
      let too : LeadsIn (first_state s.size whole) (entry_later m e) =
      LeadsIn-first_state s.size whole (entry_later m e) well_too comes_too in
      let left : s.limit + k - (e.cost + k) ≡ s.limit - e.cost = omega arith in
      ran_later (s.limit + k) s.resumes paper_room (e.cost + k) (first_state s.size whole) too.went
      (omega (arith, fits))
      ∙ (λ i. run_end (left i) s.resumes paper_room ((too.arrives ∙ state_there) i))
      ∙ run_same (s.limit - e.cost) s.resumes paper_room k (at_entry (first_state s.size tape) e)
      ∙ ap (end_later k) (sym (ran_later s.limit s.resumes paper_room e.cost (first_state s.size tape) into.went fits
      ∙ ap (run_end (s.limit - e.cost) s.resumes paper_room) into.arrives))

  after_blanks : BlankTapeIsPassed s tape e m
  after_blanks = record { well = well_too; comes = comes_too; runs = runs }

pub notation_facts : NotationFacts
notation_facts = record { after_blanks = after_blanks; for_one_loader = for_one_loader; cheap = cheap }
