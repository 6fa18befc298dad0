-- A tape that is well formed from a cleared store is loaded as it means, and its run is that from its entry.
use Rattle.ed_laws.proofs.Kit.{slice_index, Size, cleared_cells, word_with, BadRow, RowKind, Letter, PartialItem}
use Rattle.ed_laws.proofs.Kit.{RowEffect, Ended, Entered, Longer, Placed, Refused, RowsReachEntry, WellFormed}
use Rattle.ed_laws.proofs.Kit.{NotationState, row_kind, IsDirective, Arrived, entry_by, Faulty, part_of, placed_by}
use Rattle.ed_laws.proofs.Kit.{reading_on, row_effect, set_by, setting_of, Verdict, first_store, IsStarted-first_state}
use Rattle.ed_laws.proofs.Kit.{opening_notation, [], ap, arith, Bool, drop, false, get_or, inl, List, nat_lt, None}
use Rattle.ed_laws.proofs.Kit.{Option, refl, rules, Some, sym, true, ℕ, ◌+◌, ◌-◌, ◌∙◌, ◌∷◌, ◌≡◌, ◌≤◌, nat_tests}
use Rattle.ed_laws.proofs.Kit.{run_end, RunEnd, ran_later, TapeEntry, over, first_state, paper_room, ran_outcome}
use Rattle.ed_laws.proofs.Kit.{with_post_mortem, opening, reading_is_rules, LeadsIn, first_part, LeadsTo}
use Rattle.ed_initial.proofs.Kit.{set, value_of, ReachesEntry}
use Rattle.std.proofs.lemmas.List.{drop-set-lt, drop-set-add, get_or-drop}
use Rattle.ed_notation.specs.Reading.{part_word}
use Rattle.ed_notation.specs.declared.reader.DirectiveState.{DirectiveState}
use Rattle.ed_initial.proofs.Quiet.{comes_in}
use Rattle.ed_laws.specs.TapeEntries.{EachTapeRunsFromEntry}
use Rattle.ed_laws.proofs.CutRuns.{tape_cut_off}
use Rattle.ed_laws.proofs.InParts.{parts_from_entry}
use Rattle.ed_laws.proofs.TapeWalks.{steps_to_entry, traces_from_entry}

-- ---- words that agree from 41 upwards

abbrev pub Agree : List ℕ → List ℕ → Type 0
Agree v w = drop 41 v ≡ drop 41 w

set_agrees : (v w : List ℕ) (p x : ℕ) (t : Bool) → nat_lt p 41 ≡ t → Agree v w → Agree (set v p x) (set w p x)
set_agrees v w p x true e h = search (rules, drop-set-lt)
set_agrees v w p x false e h =
    let l : 41 ≤ p = grind (arith, nat_tests) in
    let q : 41 + (p - 41) ≡ p = omega arith in
    let a : (u : List ℕ) → drop 41 (set u p x) ≡ set (drop 41 u) (p - 41) x =
    λ u. ap (λ y. drop 41 (set u y x)) (sym q) ∙ drop-set-add 41 u (p - 41) x in
    a v ∙ ap (λ (y : List ℕ). set y (p - 41) x) h ∙ sym (a w)

pub over_agrees : (placed : List (ℕ × ℕ)) (v w : List ℕ) → Agree v w → Agree (over placed v) (over placed w)
over_agrees [] v w h = h
over_agrees (p ∷ placed) v w h = search (rules, set_agrees, over_agrees placed v w h)

index_agrees : (v w : List ℕ) (a : ℕ) → 41 ≤ a → Agree v w → slice_index v a ≡ slice_index w a
index_agrees v w a l h =
    let q : 41 + (a - 41) ≡ a = omega arith in
    let at : (u : List ℕ) → slice_index u a ≡ get_or (drop 41 u) (a - 41) 0 =
    λ u. ap (slice_index u) (sym q) ∙ sym (get_or-drop 41 u (a - 41) 0) in
    at v ∙ ap (λ (u : List ℕ). get_or u (a - 41) 0) h ∙ sym (at w)

-- ---- give the same reading

-- a code letter has the same value
pub value_agrees : (v w : List ℕ) (theta c : ℕ) → 17 ≤ c → Agree v w → value_of v theta c ≡ value_of w theta c
value_agrees v w theta c l h = rw (index_agrees v w (24 + c) (omega (arith, l)) h) refl

pub letter_from : (c : ℕ) → row_kind c ≡ Letter → 17 ≤ c
letter_from c = search rules

-- an entry comes only at a code letter
abbrev is_entered : RowEffect → Bool
is_entered (Entered at) = true
is_entered (Refused cause) = false
is_entered (Longer part k) = false
is_entered (Ended setting k) = false
is_entered (Placed at word) = false

goes_on : (z : Size) (k : RowKind) (contents : List ℕ) (setting : DirectiveState) (part : PartialItem) (c : ℕ)
    → is_entered (row_effect z k contents setting part c) ≡ true → k ≡ Letter
goes_on z k contents setting part c h = search rules

taken_agrees : (z : Size) (k : RowKind) (v w : List ℕ) (setting : DirectiveState) (part : PartialItem) (c : ℕ)
    → (k ≡ Letter → part_word v setting part c ≡ part_word w setting part c)
    → row_effect z k v setting part c ≡ row_effect z k w setting part c
taken_agrees z k v w setting part c h = search rules

-- the result of the reading at a row inside an item
abbrev pub on_row : Size → List ℕ → ℕ → ℕ → NotationState → PartialItem → ℕ → List ℕ → RowEffect → Verdict
on_row z words row cost notation part c rows t = elim t [
  | Refused cause ↦ Faulty row cause
  | Longer longer k ↦ reading_on z words (row + 1) (cost + k) notation (Some longer) rows
  | Ended setting k ↦ reading_on z words (row + 1) (cost + k) (set_by setting notation) None rows
  | Placed at word ↦ reading_on z words (row + 1) (cost + 17) (placed_by at word notation) None rows
  | Entered at ↦ Arrived (entry_by words row cost notation part c rows at)
]

-- and at the first row of an item
abbrev pub on_function : Size → List ℕ → ℕ → ℕ → NotationState → ℕ → List ℕ → Bool → Verdict
on_function z words row cost notation f rows t = elim t [
  | true ↦ reading_on z words (row + 1) (cost + 6) notation (Some (part_of f)) rows
  | false ↦ Faulty row BadRow
]

row_agrees : (z : Size) (v w : List ℕ) (row cost : ℕ) (notation : NotationState) (part : PartialItem) (c : ℕ)
    (rows : List ℕ) (t : RowEffect)
    → ((n k : ℕ) (m : NotationState) (p : Option PartialItem)
    → reading_on z v n k m p rows ≡ reading_on z w n k m p rows)
    → (is_entered t ≡ true
    → part_word (over notation.placed v) (setting_of notation) part c
    ≡ part_word (over notation.placed w) (setting_of notation) part c)
    → on_row z v row cost notation part c rows t ≡ on_row z w row cost notation part c rows t
row_agrees z v w row cost notation part c rows t ih same = search rules

reading_agrees : (z : Size) (v w : List ℕ) → Agree v w
    → (rows : List ℕ) (row cost : ℕ) (notation : NotationState) (part : Option PartialItem)
    → reading_on z v row cost notation part rows ≡ reading_on z w row cost notation part rows
unfolding reading_on
reading_agrees z v w h [] row cost notation part = refl
reading_agrees z v w h (f ∷ rows) row cost notation None =
    search (rules, (reading_agrees z v w h rows (row + 1) (cost + 6) notation (Some (part_of f))))
reading_agrees z v w h (c ∷ rows) row cost notation (Some part) =
    let setting = setting_of notation in
    let over_v = over notation.placed v in
    let over_w = over notation.placed w in
    let same : row_kind c ≡ Letter → part_word over_v setting part c ≡ part_word over_w setting part c =
    λ k. ap (word_with part.function part.number part.mark)
    (value_agrees over_v over_w notation.theta c (letter_from c k) (over_agrees notation.placed v w h)) in
    row_agrees z v w row cost notation part c rows (row_effect z (row_kind c) over_v setting part c)
    (λ n k m p. reading_agrees z v w h rows n k m p)
    (λ e. same (goes_on z (row_kind c) over_v setting part c e))
    ∙ ap (on_row z w row cost notation part c rows) (taken_agrees z (row_kind c) over_v over_w setting part c same)

-- ---- a cleared machine that is started on the tape

pub first_agrees : (z : Size) (codes : List ℕ) → Agree cleared_cells.words (first_state z codes).store.words
unfolding first_state
first_agrees z codes = refl

-- it reaches the entry
comes : (z : Size) (codes : List ℕ) (e : TapeEntry) → WellFormed z cleared_cells.words opening_notation codes
    → RowsReachEntry cleared_cells.words opening_notation 9 codes e → ReachesEntry (first_state z codes) e
unfolding first_state
comes z codes e well to =
    let words = (first_state z codes).store.words in
    let set : IsDirective 20568 = omega arith in
    let there = (reading_is_rules z cleared_cells.words opening_notation 9 codes set).arrived e well to in
    let same = reading_agrees z cleared_cells.words words (first_agrees z codes) codes 0 9 opening_notation None in
    let rules = reading_is_rules z words (opening words) 9 codes set in
    record { well = rules.well e (sym same ∙ there); comes = rules.comes e (sym same ∙ there) }

pub LeadsIn-first_state : (z : Size) (codes : List ℕ) (e : TapeEntry)
    → WellFormed z cleared_cells.words opening_notation codes
    → RowsReachEntry cleared_cells.words opening_notation 9 codes e → LeadsIn (first_state z codes) e
LeadsIn-first_state z codes e well to =
    comes_in (first_state z codes) e (first_store z codes) (IsStarted-first_state z codes) (comes z codes e well to)

-- the first part of the tape leads there too
leads_part : (z : Size) (codes : List ℕ) (e : TapeEntry) → WellFormed z cleared_cells.words opening_notation codes
    → RowsReachEntry cleared_cells.words opening_notation 9 codes e → LeadsTo (first_part (first_state z codes)) e
leads_part z codes e well to = let c = comes z codes e well to in record { well = c.well; comes = c.comes }

pub tapes_run_from_entry : EachTapeRunsFromEntry
tapes_run_from_entry s codes e well to =
    let first = first_state s.size codes in
    let in_order = LeadsIn-first_state s.size codes e well to in
    record {
      checked = inl (record { well = well; entry = e; comes = to; outcome = refl });
      enters = in_order.arrives;
      silent = in_order.prints_none;
      runs = λ fits.
          ap (λ (r : RunEnd). ran_outcome [] (with_post_mortem s.post_mortem r))
          (ran_later s.limit s.resumes paper_room e.cost first in_order.went fits
          ∙ ap (run_end (s.limit - e.cost) s.resumes paper_room) in_order.arrives);
      short = tape_cut_off s codes e.cost in_order.went;
      traced = traces_from_entry s codes e in_order;
      stepped = steps_to_entry s codes e in_order;
      in_parts = parts_from_entry s codes e (leads_part s.size codes e well to) in_order.went;
    }
