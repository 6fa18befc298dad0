-- A started machine waits for each row of its tape before which no rule is broken.
use Rattle.ed_initial.proofs.Kit.{NoTape, Moment, cases_lt, IsStore, step, State, state_after, quiet_codes, opening, []}
use Rattle.ed_initial.proofs.Kit.{ap, arith, inl, inr, length, List, None, Option, refl, Some, subst, sym, ℕ, ◌*◌, ◌++◌}
use Rattle.ed_initial.proofs.Kit.{◌+◌, ◌≡◌, ◌≤◌, costs, NotationState, Begun, spelled_rows, IsStarted, EndsAs, IsQuiet}
use Rattle.ed_initial.proofs.Kit.{Scratch, Loaded, Lost, rules}
use Rattle.ed_notation.specs.Beginnings.{part_cost, state_before, orders_before}
use Rattle.ed_notation.specs.Faults.{IsPart, part_rows}
use Rattle.ed_notation.proofs.Beginnings.{beginning_most, is_broken-end_of_tape, fault_sound}
use Rattle.ed_notation.proofs.Sound.{read_sound}
use Rattle.ed_initial.specs.Load.{Blocks}
use Rattle.ed_initial.specs.Waits.{IsLostAtEnd, RestsAfter, AwaitsRow, WaitsForRows, waiting_place}
use Rattle.ed_initial.specs.Walks.{later}
use Rattle.ed_initial.proofs.Goes.{Goes}
use Rattle.ed_initial.proofs.Inside.{between}
use Rattle.ed_initial.proofs.Opened.{frame, begins as first_moment, state-opened, first_path, first_scratch}
use Rattle.ed_initial.proofs.Opened.{opening_notation, state-shown}
use Rattle.ed_initial.proofs.Paths.{state}
use Rattle.ed_initial.proofs.Runs.{ends_there, exceeds_there}
use Rattle.ed_initial.proofs.Settled.{no_end}
use Rattle.ed_initial.proofs.Trips.{Trip, Begins-begun, by_path, Trip-further, whole_items}

module _ (s : State) (store : IsStore s.store) (started : IsStarted s) where
  abbrev ws : List ℕ
  ws = s.store.words

  -- a moment that is reached from Start by orders that go on, and is a rest
  record Arrives (k : ℕ) (notation : NotationState) (part : Option Begun) (rest : List ℕ) : Type 0 where
    moment : Moment
    trip : Trip (frame s store) k (first_moment s store) moment
    rests : RestsAfter (later k rest s) notation part (state (frame s store) moment (s.orders + k))

  -- a part of an item, from a rest between two items
  by_part : (k : ℕ) (scratch : Scratch) (notation : NotationState) (part : Option Begun) (rest : List ℕ) → IsPart part
      → Trip (frame s store) k (first_moment s store)
      (between (frame s store) ws scratch notation (part_rows part ++ rest))
      → Arrives (k + part_cost part) notation part rest
  by_part k scratch notation None rest is trip =
      let e : k + 0 ≡ k = omega arith in
      rw e (record {
        moment = between (frame s store) ws scratch notation rest;
        trip = trip;
        rests = (scratch, state-shown (frame s store) _ _ _ _ _ _ _);
      })
  by_part k scratch notation (Some b) rest is trip =
      let p = Begins-begun (frame s store) ws scratch notation b rest is in
      record {
        moment = _;
        trip = Trip-further trip p.trip;
        rests = (p.one, p.twenty, state-shown (frame s store) _ _ _ _ _ _ _);
      }

  waits_by : {k : ℕ} {notation : NotationState} {part : Option Begun} {rest : List ℕ} → Arrives k notation part rest
      → AwaitsRow s k notation part rest
  waits_by {k} {notation} {part} {rest} a =
      let goes : Goes k s (state (frame s store) a.moment (s.orders + k)) =
      subst (λ x. Goes k x (state (frame s store) a.moment (s.orders + k))) (state-opened s store started)
      (a.trip.goes s.orders) in
      search (rules, quiet_codes)

  pub waits : WaitsForRows s
  waits row to r =
      let f = frame s store in
      let note = opening ws in
      let all = whole_items f ws (first_scratch s) note r.before (part_rows r.part ++ r.rest)
      (opening_notation ws (store.fits 42)) r.are_read (read_sound to r) in
      let start : Trip f 9 (first_moment s store)
      (between f ws (first_scratch s) note (spelled_rows r.before ++ (part_rows r.part ++ r.rest))) =
      subst (λ x. Trip f 9 (first_moment s store) (between f ws (first_scratch s) note x)) r.rows_are
      (by_path (first_path s store)) in
      let sum : 9 + costs ws note r.before + part_cost r.part ≡ 9 + orders_before r = omega arith in
      waits_by (rw (sym sum) (by_part _ all.left (state_before r) r.part r.rest r.is_part
      (Trip-further start all.trip)))

-- where the machine waits, it needs a row
pub needs_row : {s : State} {k : ℕ} {notation : NotationState} (part : Option Begun) → AwaitsRow s k notation part []
    → (step (state_after k s)).turn ≡ NoTape
unfolding step
needs_row None w = ap (λ (x : State). (step x).turn) w.rests.1
needs_row (Some b) w = ap (λ (x : State). (step x).turn) w.rests.2

-- it stands at 9 or 34, and has obeyed as many orders more
pub waits_at : {s : State} {k : ℕ} {notation : NotationState} (part : Option Begun) {rest : List ℕ}
    → AwaitsRow s k notation part rest
    → ((state_after k s).counter ≡ waiting_place part) × ((state_after k s).orders ≡ s.orders + k)
waits_at None w = (ap (λ (x : State). x.counter) w.rests.1, ap (λ (x : State). x.orders) w.rests.1)
waits_at (Some b) w = (ap (λ (x : State). x.counter) w.rests.2, ap (λ (x : State). x.orders) w.rests.2)

-- a load that cannot go on after k orders is lost there
lost : (s : State) (bound k : ℕ) {r : Loaded} → IsQuiet k s → (step (state_after k s)).turn ≡ NoTape → k ≤ bound
    → EndsAs s bound r → r ≡ Lost k
lost s bound k quiet blocked fits ends =
    elim (cases_lt k bound) [
      | inl below ↦ ends_there ends k (λ j l. no_end (quiet j l)) Blocks below (rw blocked refl)
      | inr all ↦ exceeds_there ends k (λ j l. no_end (quiet j l)) (omega (arith, fits))
    ]

pub lost_at_end : (s : State) (r : Loaded) → IsStore s.store → IsStarted s → EndsAs s (17 * length s.tape + 9) r
    → IsLostAtEnd s r
lost_at_end s r store started ends row f =
    let ws = s.store.words in
    let x = f.is.stands in
    let there = waits s store started row (fault_sound f) x in
    let none = is_broken-end_of_tape s.size ws (state_before x) x.part x.rest f.is.breaks in
    let turn = needs_row x.part
    (subst (λ rest. AwaitsRow s (9 + orders_before x) (state_before x) x.part rest) none there) in
    lost s (17 * length s.tape + 9) (9 + orders_before x) there.quiet turn (omega (arith, beginning_most x)) ends
