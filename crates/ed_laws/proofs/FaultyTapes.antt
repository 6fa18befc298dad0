-- A tape with a fault: the machine waits for the row of the fault, in the state that the rows before it mean.
use Rattle.ed_laws.proofs.Kit.{Size, cleared_cells, TapeCause, Item, RowKind, Letter, breaks, is_broken, act, costs}
use Rattle.ed_laws.proofs.Kit.{fold, NotationState, Begun, item_of, items, row_kind, Written, first_store}
use Rattle.ed_laws.proofs.Kit.{IsStarted-first_state, opening_notation, [], ap, inr, List, None, Option, refl, rules}
use Rattle.ed_laws.proofs.Kit.{Some, subst, sym, true, ℕ, ◌+◌, ◌∙◌, ◌∷◌, ◌≡◌, Text, state_after, AllWent, RunEnd}
use Rattle.ed_laws.proofs.Kit.{first_state, ran_outcome, with_post_mortem, opening, first_part, HasFault, Outcome}
use Rattle.ed_laws.proofs.Kit.{paper, post_mortem_codes}
use Rattle.ed_notation.proofs.Kit.{IsSoundTo, AreRead, Breaks, IsFault, IsRead, ending_effect, item_word}
use Rattle.ed_notation.proofs.Kit.{letter_action_of, item}
use Rattle.ed_notation.specs.Beginnings.{orders_before, state_before}
use Rattle.ed_notation.specs.Fold.{with_letter}
use Rattle.ed_notation.proofs.Beginnings.{is_broken-end_of_tape, fault_sound}
use Rattle.ed_initial.specs.Waits.{AwaitsRow, waiting_place}
use Rattle.ed_initial.proofs.Awaited.{needs_row, waits, waits_at}
use Rattle.ed_laws.specs.FaultyTapes.{EachFaultyTapeWaits}
use Rattle.ed_laws.proofs.CutRuns.{at_limit, at_no_tape}
use Rattle.ed_laws.proofs.InParts.{parts_refuse}
use Rattle.ed_laws.proofs.Stepped.{none_done}
use Rattle.ed_laws.proofs.TapeEntries.{Agree, first_agrees, letter_from, over_agrees, value_agrees}

-- ---- rows mean the same over words that agree from 41 upwards

module _ (v w : List ℕ) (same : Agree v w) where
  word_agrees : (n : NotationState) (i : Item) → row_kind i.end ≡ Letter → item_word v n i ≡ item_word w n i
  word_agrees n i k = search (rules, value_agrees, letter_from, over_agrees)

  effect_agrees : (k : RowKind) (n : NotationState) (i : Item) → (k ≡ Letter → item_word v n i ≡ item_word w n i)
      → ending_effect k v n i ≡ ending_effect k w n i
  effect_agrees Letter n i h = ap (with_letter (letter_action_of n.directive) n) (h refl)
  effect_agrees k n i h = refl

  act_agrees : (n : NotationState) (i : Item) → act v n i ≡ act w n i
  act_agrees n i = effect_agrees (row_kind i.end) n i (word_agrees n i)

  fold_agrees : (n : NotationState) (is : List Item) → fold v n is ≡ fold w n is
  fold_agrees n [] = refl
  fold_agrees n (i ∷ is) = fold_agrees (act v n i) is ∙ ap (λ (x : NotationState). fold w x is) (act_agrees n i)

  costs_agree : (n : NotationState) (ws : List Written) → costs v n ws ≡ costs w n ws
  costs_agree n ws = search (rules, act_agrees)

  read_agrees : (n : NotationState) (ws : List Written) → AreRead v n ws → AreRead w n ws
  read_agrees n [] h = tt
  read_agrees n (x ∷ xs) h = (
    h.0,
    h.1,
    subst (λ (y : NotationState). AreRead w y xs) (act_agrees n (item x))
        (read_agrees (act v n (item x)) xs h.2),
  )

  breaks_agrees : (cause : TapeCause) (k : RowKind) (z : Size) (n : NotationState) (b : Begun) (c : ℕ)
      → (k ≡ Letter → item_word v n (item_of b c) ≡ item_word w n (item_of b c))
      → breaks cause k z v n b c ≡ breaks cause k z w n b c
  breaks_agrees cause k z n b c h = search rules

  broken_agrees : (z : Size) (n : NotationState) (part : Option Begun) (rest : List ℕ) (cause : TapeCause)
      → is_broken z v n part rest cause ≡ is_broken z w n part rest cause
  broken_agrees z n part [] cause = refl
  broken_agrees z n None (c ∷ rest) cause = refl
  broken_agrees z n (Some b) (c ∷ rest) cause =
      breaks_agrees cause (row_kind c) z n b c (word_agrees n (item_of b c))

  abbrev read_over : {start : NotationState} {rows : List ℕ} {row : ℕ} → IsRead v start rows row
      → IsRead w start rows row
  read_over {start} r = record {
    before = r.before;
    part = r.part;
    rest = r.rest;
    are_read = read_agrees start r.before r.are_read;
    is_part = r.is_part;
    rows_are = r.rows_are;
    row_is = r.row_is;
  }

  broken_over : {z : Size} {start : NotationState} {rows : List ℕ} {row : ℕ} {cause : TapeCause}
      → Breaks z v start rows row cause → Breaks z w start rows row cause
  broken_over {z} {start} {cause = cause} b =
      let r = b.stands in
      record {
        stands = read_over r;
        breaks = ap (λ (n : NotationState). is_broken z w n r.part r.rest cause)
            (sym (fold_agrees start (items r.before)))
            ∙ sym (broken_agrees z (fold v start (items r.before)) r.part r.rest cause)
            ∙ b.breaks;
      }

  fault_over : {z : Size} {start : NotationState} {rows : List ℕ} {row : ℕ} {cause : TapeCause}
      → ((r : ℕ) (other : TapeCause) → Breaks z w start rows r other → Breaks z v start rows r other)
      → IsFault z v start rows row cause → IsFault z w start rows row cause
  fault_over back f = record { is = broken_over f.is; least = λ r other b. f.least r other (back r other b) }

-- ---- the machine on such a tape

-- the first part of the tape has the fault
part_fault : (z : Size) (rows : List ℕ) {row : ℕ} {cause : TapeCause}
    → IsFault z cleared_cells.words opening_notation rows row cause
    → HasFault (first_part (first_state z rows)) row cause
unfolding first_state
part_fault z rows f = search (rules, fault_over, broken_over)

-- from a cleared machine
cleared_waits : (z : Size) (rows : List ℕ) {row : ℕ} (r : IsRead cleared_cells.words opening_notation rows row)
    → IsSoundTo z cleared_cells.words opening_notation rows row
    → AwaitsRow (first_state z rows) (9 + orders_before r) (state_before r) r.part r.rest
unfolding first_state
cleared_waits z rows {row} r to =
    let v = cleared_cells.words in
    let w = (first_state z rows).store.words in
    let same = first_agrees z rows in
    let to' : IsSoundTo z w (opening w) rows row = λ at cause b. to at cause (broken_over w v (sym same) b) in
    let there = waits (first_state z rows) (first_store z rows) (IsStarted-first_state z rows) row to'
    (read_over v w same r) in
    rw (costs_agree v w same opening_notation r.before, fold_agrees v w same opening_notation (items r.before)) there

pub faulty_tapes_wait : EachFaultyTapeWaits
faulty_tapes_wait s rows row cause f =
    let r = f.is.stands in
    let first = first_state s.size rows in
    let k = 9 + orders_before r in
    let there = cleared_waits s.size rows r (fault_sound f) in
    let give : RunEnd → Outcome = λ q. ran_outcome [] (with_post_mortem s.post_mortem q) in
    let out : Text = paper (post_mortem_codes s.post_mortem (state_after k first)) in
    let went : AllWent k first = λ j below. (there.quiet j below).went in
    let none = none_done s.size rows in
    let at = (waits_at r.part there).0 in
    record {
      checked = inr (record { row = row; cause = cause; fault = f; outcome = refl });
      waits = there;
      limited = at_limit s.limit s.resumes k (waiting_place r.part) first give out went none at (λ e. refl);
      no_tape = λ is below.
          let broken = subst (λ (c : TapeCause).
          is_broken s.size cleared_cells.words (state_before r) r.part r.rest c ≡ true) is f.is.breaks in
          let last = is_broken-end_of_tape s.size cleared_cells.words (state_before r) r.part r.rest broken in
          at_no_tape s.limit s.resumes k (waiting_place r.part) first give out went none at (λ e. refl) below
          (needs_row r.part (subst (λ x. AwaitsRow first k (state_before r) r.part x) last there));
      in_parts = parts_refuse s rows row cause (part_fault s.size rows f);
    }
