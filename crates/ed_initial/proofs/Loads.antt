-- The induction over the rows of a tape: from any rest, a tape that the notation accepts leads to its entry at its
-- cost.
use Rattle.ed_initial.proofs.Kit.{Went, Moment, ◌^◌, step, State, PartialItem, RowEffect, Ended, Entered, Longer}
use Rattle.ed_initial.proofs.Kit.{Placed, Refused, Reader, [], arith, Bool, false, List, lit≤, nat_lt, None, Option}
use Rattle.ed_initial.proofs.Kit.{refl, Some, subst, suc, true, ℕ, ◌*◌, ◌+◌, ◌<◌, ◌∷◌, ◌≡◌, ltb-true, TapeEntry}
use Rattle.ed_initial.proofs.Kit.{NotationState, over, row_kind, Arrived, entry_by, part_of, placed_by, reading_on}
use Rattle.ed_initial.proofs.Kit.{row_effect, set_by, setting_of, entry_words, enters, IsNotationState, IsPartSoFar}
use Rattle.ed_initial.proofs.Kit.{Scratch, working}
use Rattle.ed_notation.specs.Reading.{Faulty}
use Rattle.ed_notation.specs.declared.cause.TapeCause.{TapeCause}
use Rattle.ed_notation.specs.declared.cause.TapeCause.TheVariants.{BadRow, EndOfTape}
use Rattle.ed_notation.proofs.Follow.{reads, passed, follow}
use Rattle.ed_initial.proofs.Goes.{Goes, Goes-joined, Goes-along, Goes-whole}
use Rattle.ed_initial.proofs.Inside.{between, inside, AtRow, Follows, After-follows}
use Rattle.ed_initial.proofs.Paths.{Kept, state, ToRest, moment, function_path}

-- the machine at the entry, after this number of orders
abbrev pub entered : Kept → List ℕ → TapeEntry → ℕ → State
entered f ws e orders = state f
    (moment f (entry_words e) (over e.notation.placed ws) false (e.word * 2 ^ 54) e.at e.rest) orders

-- a load goes on from a state, which it reached at a cost, up to an entry
pub record Reaches (f : Kept) (ws : List ℕ) (first cost : ℕ) (s : State) (e : TapeEntry) : Type 0 where
  pub steps : ℕ
  pub middle : State
  pub goes : Goes steps s middle
  pub enters : enters middle ≡ true
  pub enters_by : step middle ≡ record { state = entered f ws e (first + e.cost); turn = Went }
  pub cost_is : cost + suc steps ≡ e.cost

-- where a load rests: what the rest leaves open, the rows read and the orders obeyed, and the state of the notation
pub record Rest : Type 0 where
  pub scratch : Scratch
  pub row : ℕ
  pub cost : ℕ
  pub notation : NotationState

module _ (f : Kept) (ws : List ℕ) (first : ℕ) where
  -- a load that goes on from where a path leads
  pub Reaches-prepend : {r t : Moment} {e : TapeEntry} (k cost : ℕ) → ToRest f k r t
      → Reaches f ws first (cost + k) (state f t (first + (cost + k))) e
      → Reaches f ws first cost (state f r (first + cost)) e
  Reaches-prepend {r} {t} {e} k cost path a =
      let sum : first + cost + k ≡ first + (cost + k) = omega arith in
      let goes : Goes k (state f r (first + cost)) (state f t (first + (cost + k))) =
      subst (λ x. Goes k (state f r (first + cost)) (state f t x)) sum (Goes-whole path (first + cost)) in
      record {
        steps = k + a.steps;
        middle = a.middle;
        goes = Goes-joined k a.steps (state f r (first + cost)) (state f t (first + (cost + k))) a.middle goes a.goes;
        enters = a.enters;
        enters_by = a.enters_by;
        cost_is = omega (arith, a.cost_is);
      }

  abbrev IsPhase : Option PartialItem → Type 0
  IsPhase None = Unit {0}
  IsPhase (Some part) = IsPartSoFar part

  -- the reader there
  abbrev reader : Rest → Reader
  reader r = record { size = f.size; words = ws; row = r.row; cost = r.cost; notation = r.notation }

  -- between two items, or inside one
  abbrev rests : Rest → Option PartialItem → List ℕ → Moment
  rests r None rows = between f ws r.scratch r.notation rows
  rests r (Some part) rows = inside f ws part r.scratch.at1 r.scratch.at20 r.notation rows

  -- what holds for the rows of a tape
  abbrev Loads : List ℕ → Type 0
  Loads rows = (r : Rest) (p : Option PartialItem) (e : TapeEntry) → IsNotationState r.notation → IsPhase p
      → reads (reader r) p rows ≡ Arrived e
      → Reaches f ws first r.cost (state f (rests r p rows) (first + r.cost)) e

  entry_same : (a b : TapeEntry) → Arrived a ≡ Arrived b → a ≡ b
  entry_same a b h = cc

  -- a tape that is faulty has no entry
  never : {R : Type 0} (row : ℕ) (cause : TapeCause) (e : TapeEntry) → Faulty row cause ≡ Arrived e → R
  never row cause e h = absurd (cc)

  by_function : (rows : List ℕ) → Loads rows → (r : Rest) (c : ℕ) {e : TapeEntry} → IsNotationState r.notation
      → {b : Bool}
      → nat_lt c 32 ≡ b
      → elim b [
        | true ↦ reads (passed (reader r) 1 6 r.notation) (Some (part_of c)) rows
        | false ↦ Faulty r.row BadRow
      ] ≡ Arrived e → Reaches f ws first r.cost (state f (rests r None (c ∷ rows)) (first + r.cost)) e
  by_function rows ih r c {e} good {b = true} t h =
      let small : c < 32 = ltb-true c 32 t in
      let begins : IsPartSoFar (part_of c) = record { function = small; number = lit≤ tt; blank = λ b. (refl, refl) } in
      let after : Rest = record { scratch = r.scratch; row = r.row + 1; cost = r.cost + 6; notation = r.notation } in
      let path = function_path f (working r.scratch r.notation) (over r.notation.placed ws) r.scratch.digit40 c
      rows small in
      Reaches-prepend 6 r.cost path (ih after (Some (part_of c)) e good begins h)
  by_function rows ih r c {e} good {b = false} t h = never r.row BadRow e h

  -- every tape, from every rest
  loads_on : (rows : List ℕ) → Loads rows
  unfolding reading_on
  loads_on [] r None e good phase h = never r.row EndOfTape e h
  loads_on [] r (Some part) e good phase h = never r.row EndOfTape e h
  loads_on (c ∷ rows) r None e good phase h = by_function rows (loads_on rows) r c good refl h
  loads_on (c ∷ rows) r (Some part) e good phase h =
      by_taken (loads_on rows) (row_effect f.size (row_kind c) (over r.notation.placed ws)
      (setting_of r.notation) part c)
      (After-follows row good phase) h
    where
      row : AtRow
      row = record {
        kept = f;
        words = ws;
        notation = r.notation;
        part = part;
        at1 = r.scratch.at1;
        at20 = r.scratch.at20;
        code = c;
        rows = rows;
      }

      behind : Scratch → ℕ → NotationState → Rest
      behind scratch k notation = record { scratch = scratch; row = r.row + 1; cost = r.cost + k; notation = notation }

      by_taken : Loads rows → (t : RowEffect) → Follows row t → follow (reader r) part c rows t ≡ Arrived e
          → Reaches f ws first r.cost (state f (rests r (Some part) (c ∷ rows)) (first + r.cost)) e
      by_taken ih (Refused cause) o h = never r.row cause e h
      by_taken ih (Longer longer k) o h =
          Reaches-prepend k r.cost o.path (ih (behind (record r.scratch { at1 = o.one; at20 = o.twenty }) k r.notation)
          (Some longer) e good o.part_is h)
      by_taken ih (Ended setting k) o h =
          Reaches-prepend k r.cost o.path (ih (behind o.scratch k (set_by setting r.notation)) None
          e o.notation_is tt h)
      by_taken ih (Placed place word) o h =
          Reaches-prepend 17 r.cost o.path (ih (behind o.scratch 17 (placed_by place word r.notation)) None e
          o.notation_is tt h)
      by_taken ih (Entered place) o h =
          let here = rests r (Some part) (c ∷ rows) in
          let x : TapeEntry = entry_by ws r.row r.cost r.notation part c rows place in
          let sum : first + r.cost + 12 + 1 ≡ first + (r.cost + 13) = omega arith in
          let arrives : Reaches f ws first r.cost (state f here (first + r.cost)) x = record {
            steps = 12;
            middle = state f o.middle (first + r.cost + 12);
            goes = Goes-along o.runs (first + r.cost);
            enters = o.last.jumps (first + r.cost + 12);
            enters_by = subst (λ k. step (state f o.middle (first + r.cost + 12))
                ≡ record { state = entered f ws x k; turn = Went }) sum
                (o.last.does (first + r.cost + 12));
            cost_is = omega arith;
          } in
          subst (λ y. Reaches f ws first r.cost (state f here (first + r.cost)) y) (entry_same x e h) arrives

  -- and from a rest between two items
  pub Reaches-loads : (rows : List ℕ) (r : Rest) {e : TapeEntry} → IsNotationState r.notation
      → reading_on f.size ws r.row r.cost r.notation None rows ≡ Arrived e
      → Reaches f ws first r.cost (state f (rests r None rows) (first + r.cost)) e
  Reaches-loads rows r {e} good h = loads_on rows r None e good tt h
