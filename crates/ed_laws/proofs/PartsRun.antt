-- With `tape`, a tape in parts is the run that ends as the parts do and prints what their programs print.
use Rattle.ed_laws.proofs.Kit.{Ending, Limit, PaperFull, Stopped, Turn, few_codes, past_next, past_sum, Settings}
use Rattle.ed_laws.proofs.Kit.{ran_is, length-append, lt-leb, ap, append-nil, arith, Bool, false, if◌then◌else◌, inl}
use Rattle.ed_laws.proofs.Kit.{inr, length, List, nat_eq, nat_le, nat_lt, None, refl, rules, Some, subst, suc, sym}
use Rattle.ed_laws.proofs.Kit.{true, ℕ, ◌++◌, ◌+◌, ◌-◌, ◌<◌, ◌∙◌, ◌≡◌, ◌≤◌, nat_tests, step, State, Progress, progress}
use Rattle.ed_laws.proofs.Kit.{state_after, end_at, end_by, EndsAfter, run_end, first_state, paper_room, first_within}
use Rattle.ed_laws.proofs.Kit.{zero, cases_lt, codes_of}
use Rattle.std.proofs.Common.{take}
use Rattle.std.proofs.Math.Seq.{take-append_seam}
use Rattle.std.proofs.lemmas.Bool.{le-leb}
use Rattle.ed_run.specs.Run.{prints}
use Rattle.ed_run.proofs.Ends.{ends_at_limit}
use Rattle.ed_interlude.specs.Laws.{EndsAsRun}
use Rattle.ed_interlude.proofs.Runs.{each_end}
use Rattle.ed_laws.specs.PartsRun.{EachTapeInPartsIsRun, EndsInParts, PartsAreRun, PartsFillPaper, printed_by, run_once}

-- ---- on a paper that has room

-- what doesn't end a run whose paper is never full doesn't end one whose paper has room
none_by : (turn : Turn) (full other : Bool) → (prints turn ≡ true → other ≡ false) → end_by turn full ≡ None
    → end_by turn other ≡ None
none_by turn full other room h = search rules

-- and what ends it ends both
some_by : (turn : Turn) (full other : Bool) (e : Ending) → full ≡ false → end_by turn full ≡ Some e
    → end_by turn other ≡ Some e
some_by turn full other e not h = search rules

-- a full paper ends a run at an order that prints
full_by : (turn : Turn) (full other : Bool) → prints turn ≡ true → other ≡ true → end_by turn full ≡ None
    → end_by turn other ≡ Some PaperFull
full_by turn full other p is h = search rules

-- an order prints one code or none
prints_one : (turn : Turn) → prints turn ≡ true → length (codes_of turn) ≡ 1
prints_one turn p = search rules

one_printed : (turn : Turn) → 0 < length (codes_of turn) → (prints turn ≡ true) × (length (codes_of turn) ≡ 1)
one_printed turn some = search rules

-- no end comes before k orders whose codes have room
module _ (limit room : ℕ) (s : State) (k : ℕ)
    (first : (j : ℕ) → j < k → end_at limit 0 limit j (progress j s) ≡ None)
    (fits : length (progress k s).codes ≤ room) where
  -- if an order before the end prints, there is room
  has_room : (j : ℕ) → j < k → prints (step (state_after j s)).turn ≡ true
      → nat_le room (length (progress j s).codes) ≡ false
  has_room j below p =
      let turn = (step (state_after j s)).turn in
      let whole : (j + 1) + (k - (j + 1)) ≡ k = omega (arith, below) in
      let later = progress (k - (j + 1)) (state_after (j + 1) s) in
      let next : length (progress (j + 1) s).codes ≡ length (progress j s).codes + length (codes_of turn) =
      ap (λ (x : Progress). length x.codes) (past_next j s) ∙ length-append (progress j s).codes (codes_of turn) in
      let all : length (progress k s).codes ≡ length (progress (j + 1) s).codes + length later.codes =
      ap (λ n. length (progress n s).codes) (sym whole)
      ∙ ap (λ (x : Progress). length x.codes) (past_sum (j + 1) (k - (j + 1)) s)
      ∙ length-append (progress (j + 1) s).codes later.codes in
      lt-leb _ _ (omega (arith, fits, next, all, prints_one turn p))

  none_there : (j : ℕ) → j < k → end_at limit 0 room j (progress j s) ≡ None
  none_there j below = search (rules, none_by, has_room)

  -- the end that comes then is that on such a paper
  pub roomy : (e : Ending) → EndsAfter limit 0 limit s k e
      → run_end limit 0 room s ≡ record { ending = e; state = state_after k s; codes = (progress k s).codes }
  roomy e ends = ran_is limit 0 room k s e (record { now = some_there; first = none_there })
    where
      turn : Turn
      turn = (step (state_after k s)).turn

      within : k ≤ limit
      within = first_within k limit ends.first (ends_at_limit limit 0 limit (progress limit s))

      by_tests : (b c : Bool) → nat_eq k limit ≡ c
          → (if b then Some Stopped else if c then Some Limit
          else end_by turn (nat_le limit (length (progress k s).codes))) ≡ Some e
          → (if b then Some Stopped else if c then Some Limit
          else end_by turn (nat_le room (length (progress k s).codes))) ≡ Some e
      by_tests true c is h = h
      by_tests false true is h = h
      by_tests false false is h =
          let below : k < limit = let in_it = within in grind (arith, nat_tests) in
          some_by turn _ _ e (lt-leb _ _ (omega (arith, few_codes k s))) h

      some_there : end_at limit 0 room k (progress k s) ≡ Some e
      some_there = by_tests (nat_lt 0 (progress k s).stops) (nat_eq k limit) refl ends.now

  -- an order for whose code there is no room ends the run
  pub filled : length (progress k s).codes ≡ room → prints (step (state_after k s)).turn ≡ true
      → end_at limit 0 limit k (progress k s) ≡ None
      → run_end limit 0 room s ≡ record { ending = PaperFull; state = state_after k s; codes = (progress k s).codes }
  filled full printing going = search (rules, ran_is, none_there, full_by, le-leb)

-- ---- an order for whose code there is no room

record Crosses (room k : ℕ) (s : State) : Type 0 where
  pub at : ℕ
  pub before : at < k
  pub full : length (progress at s).codes ≡ room
  pub printing : prints (step (state_after at s)).turn ≡ true

-- if more is printed than there is room for, there is such an order
crosses : (room k : ℕ) (s : State) → room < length (progress k s).codes → Crosses room k s
unfolding progress
crosses room zero s more = absurd (omega arith)
crosses room (suc k) s more = elim (cases_lt room (length (progress k s).codes)) [
  | inl earlier ↦
      let c = crosses room k s earlier in
      record { at = c.at; before = omega (arith, c.before); full = c.full; printing = c.printing }
  | inr fits ↦
      let turn = (step (state_after k s)).turn in
      let count : length (progress (suc k) s).codes ≡ length (progress k s).codes + length (codes_of turn) =
      length-append (progress k s).codes (codes_of turn) in
      let one = one_printed turn (omega (arith, count, more, fits)) in
      record { at = k; before = omega arith; full = omega (arith, count, more, fits, one.1); printing = one.0 }
]

-- ---- a tape

module _ (s : Settings) (codes : List ℕ) (p : EndsInParts s codes) where
  abbrev start : State
  start = first_state s.size codes

  run : EndsAsRun s.limit start p.ending p.told.last (printed_by p)
  run = each_end.of_text s.limit s.size p.text codes p.read p.told p.ending p.tells p.end_is

  runs : length (printed_by p) ≤ paper_room → PartsAreRun (run_once s) codes p.told (printed_by p)
  runs fits =
      let there : run_end s.limit 0 paper_room start
      ≡ record { ending = p.ending; state = p.told.last; codes = printed_by p } =
      roomy s.limit paper_room start run.orders run.ends.first
      (subst (λ (xs : List ℕ). length xs ≤ paper_room) (sym run.prints) fits) p.ending run.ends
      ∙ (λ i. record { ending = p.ending; state = sym run.state_is i; codes = run.prints i }) in
      search (rules, append-nil)

  fills : paper_room < length (printed_by p) → PartsFillPaper (run_once s) codes (printed_by p)
  fills more =
      let c : Crosses paper_room run.orders start =
      crosses paper_room run.orders start
      (subst (λ (xs : List ℕ). paper_room < length xs) (sym run.prints) more) in
      let early = λ (j : ℕ) (below : j < c.at). run.ends.first j (omega (arith, below, c.before)) in
      let there : run_end s.limit 0 paper_room start
      ≡ record { ending = PaperFull; state = state_after c.at start; codes = (progress c.at start).codes } =
      filled s.limit paper_room start c.at early (omega (arith, c.full)) c.full c.printing
      (run.ends.first c.at c.before) in
      let rest = progress (run.orders - c.at) (state_after c.at start) in
      let whole : c.at + (run.orders - c.at) ≡ run.orders = omega (arith, c.before) in
      let all : printed_by p ≡ (progress c.at start).codes ++ rest.codes =
      sym run.prints ∙ ap (λ n. (progress n start).codes) (sym whole)
      ∙ ap (λ (x : Progress). x.codes) (past_sum c.at (run.orders - c.at) start) in
      let part : take paper_room (printed_by p) ≡ (progress c.at start).codes =
      (λ i. take (sym c.full i) (all i)) ∙ take-append_seam (progress c.at start).codes rest.codes in
      search (rules, append-nil)

pub each_tape_in_parts : EachTapeInPartsIsRun
each_tape_in_parts = record { runs = runs; fills = fills }
