-- The walk from one rest to the next does what the notation says of the row.
use Rattle.ed_initial.proofs.Kit.{rules, Moment, IsStore, State, state_after, opening, PartialItem, RowEffect, Ended}
use Rattle.ed_initial.proofs.Kit.{Entered, Longer, Placed, Refused, ap, length, List, lit<, lit≤, refl, subst, sym}
use Rattle.ed_initial.proofs.Kit.{true, ℕ, ◌+◌, ◌<◌, ◌∙◌, ◌∷◌, ◌≡◌, ◌≤◌, NotationState, over, row_kind, part_of}
use Rattle.ed_initial.proofs.Kit.{row_effect, setting_of, IsStarted, IsNotationState, IsPartSoFar, Scratch, scratch_of}
use Rattle.ed_initial.proofs.Kit.{working, Between, DoesRow, Inside, is_rest, walk_orders, WalkEnds, Rested, At}
use Rattle.ed_initial.specs.Rests.{rest34, rest9, rest_at}
use Rattle.ed_initial.proofs.Arrivals.{walks_path, walks_in}
use Rattle.ed_initial.proofs.Inside.{between, inside, AtRow, Follows, After-follows}
use Rattle.ed_initial.proofs.Opened.{frame, state-opened, first_path, first_scratch, state-shown}
use Rattle.ed_initial.proofs.Paths.{Kept, state, ToRest, function_path}

-- a walk from a state: how it ended, and in which state
pub record IsWalked (s t : State) (r : Rested) : Type 0 where
  pub store : IsStore s.store
  pub ends : WalkEnds s r
  pub is : t ≡ state_after (walk_orders r) s

pub walk_of : {s t : State} {r : Rested} → IsStore s.store → WalkEnds s r → t ≡ state_after (walk_orders r) s
    → IsWalked s t r
walk_of store ends is = record { store = store; ends = ends; is = is }

-- from a state at the beginning of a path
moved : {f : Kept} {k : ℕ} {a b : Moment} {s t : State} {r : Rested} (orders : ℕ) → IsWalked s t r
    → s ≡ state f a orders → ToRest f k a b → is_rest b.counter ≡ true → k ≤ 17
    → (r ≡ At b.counter k) × (t ≡ state f b (orders + k))
moved {t = t} {r} orders w same path rest few =
    walks_path path rest few orders t r (subst (λ x. WalkEnds x r) same w.ends)
    (w.is ∙ ap (state_after (walk_orders r)) same)

-- the start
pub from_start : {s t : State} {r : Rested} → IsWalked s t r → IsStarted s
    → Between s (opening s.store.words) s.tape 9 r t
from_start {s} w started =
    let store = w.store in
    let p = moved s.orders w (sym (state-opened s store started)) (first_path s store) refl (lit≤ tt) in
    record { result_is = p.0; scratch = first_scratch s; state_is = p.1 ∙ state-shown (frame s store) _ _ _ _ _ _ _ }

module _ (o : State) {s t : State} {r : Rested} (w : IsWalked s t r) where
  -- the opening store has sandwich digits as the machine's has
  has_room : (place : ℕ) (scratch : Scratch) (notation : NotationState) → s ≡ rest_at place scratch notation o
      → 20 < length o.store.sandwich
  has_room place scratch notation e = search rules

  abbrev held : 20 < length o.store.sandwich → Kept
  held room = record { size = o.size; digits = o.store.sandwich; room = room; last = o.last }

  -- a function row
  pub by_function : (scratch : Scratch) {notation : NotationState} (c : ℕ) {rows : List ℕ}
      → IsNotationState notation → c < 32
      → o.tape ≡ c ∷ rows → s ≡ rest34 scratch notation o → Inside o notation (part_of c) rows 6 r t
  by_function scratch {notation} c {rows} good small tape e =
      let f = held (has_room 34 scratch notation e) in
      let ws = o.store.words in
      let same : s ≡ state f (between f ws scratch notation (c ∷ rows)) o.orders =
      e ∙ (λ i. rest34 scratch notation (record o { tape = tape i })) ∙ sym (state-shown f _ _ _ _ _ _ _) in
      let path = function_path f (working scratch notation) (over notation.placed ws) scratch.digit40 c rows small in
      let p = moved o.orders w same path refl (lit≤ tt) in
      record {
        result_is = p.0;
        at1 = scratch.at1;
        at20 = scratch.at20;
        state_is = p.1 ∙ state-shown f _ _ _ _ _ _ _;
      }

  -- a row inside an item
  pub by_row : {part : PartialItem} (at1 at20 : ℕ) {notation : NotationState} {c : ℕ} {rows : List ℕ}
      → IsNotationState notation → IsPartSoFar part
      → o.tape ≡ c ∷ rows → s ≡ rest9 part at1 at20 notation o
      → DoesRow o notation part c rows r t
      (row_effect o.size (row_kind c) (over notation.placed o.store.words) (setting_of notation) part c)
  by_row {part} at1 at20 {notation} {c} {rows} good phase tape e =
      by_taken (row_effect o.size (row_kind c) (over notation.placed o.store.words) (setting_of notation) part c)
      (After-follows row good phase)
    where
      room : 20 < length o.store.sandwich
      room = has_room 9 (scratch_of part at1 at20) notation e

      f : Kept
      f = held room

      row : AtRow
      row = record {
        kept = f;
        words = o.store.words;
        notation = notation;
        part = part;
        at1 = at1;
        at20 = at20;
        code = c;
        rows = rows;
      }

      same : s ≡ state f (inside f o.store.words part at1 at20 notation (c ∷ rows)) o.orders
      same = e ∙ (λ i. rest9 part at1 at20 notation (record o { tape = tape i })) ∙ sym (state-shown f _ _ _ _ _ _ _)

      by_taken : (k : RowEffect) → Follows row k → DoesRow o notation part c rows r t k
      by_taken (Refused cause) h = tt
      by_taken (Longer next k) h =
          let p = moved o.orders w same h.path refl h.few in
          record { result_is = p.0; at1 = h.one; at20 = h.twenty; state_is = p.1 ∙ state-shown f _ _ _ _ _ _ _ }
      by_taken (Ended setting k) h =
          let p = moved o.orders w same h.path refl h.few in
          record { result_is = p.0; scratch = h.scratch; state_is = p.1 ∙ state-shown f _ _ _ _ _ _ _ }
      by_taken (Placed at word) h =
          let p = moved o.orders w same h.path refl h.few in
          record { result_is = p.0; scratch = h.scratch; state_is = p.1 ∙ state-shown f _ _ _ _ _ _ _ }
      by_taken (Entered at) h =
          let here = subst (λ x. WalkEnds x r) same w.ends in
          let p = walks_in h.runs h.last (lit< tt) o.orders t r here (w.is ∙ ap (state_after (walk_orders r)) same) in
          record { result_is = p.0; state_is = p.1 ∙ state-shown f _ _ _ _ _ _ _ }
