-- Whatever the reader answers, there are items that say the same.
use Rattle.ed_notation.proofs.Kit.{[], append_assoc, Bool, false, length, length-append, List, lit≤, nat_lt, None}
use Rattle.ed_notation.proofs.Kit.{Option, refl, Some, subst, true, ℕ, ◌++◌, ◌+◌, ◌∷◌, ◌≡◌, ltb-true, ap, arith, sym}
use Rattle.ed_notation.proofs.Kit.{◌∙◌, Breaks, breaks, is_broken, IsPart, part_rows, RowsReachEntry, TapeEntry, act}
use Rattle.ed_notation.proofs.Kit.{begun_cost, cost_of, is_entry, NotationState, Begun, begun_rows, IsBegun, IsWritten}
use Rattle.ed_notation.proofs.Kit.{item, row_kind, rows_of, spelled_rows, Written, IsDirective, Arrived, Faulty}
use Rattle.ed_notation.proofs.Kit.{reading_on, Verdict, TapeCause, BadRow, EndOfTape, RowEffect, Entered, Longer}
use Rattle.ed_notation.proofs.Kit.{Refused, setting_of, Size}
use Rattle.ed_notation.proofs.Directives.{IsEffectInRange}
use Rattle.ed_notation.proofs.Follow.{Reader, reads, passed, behind, inside, follow, seen_fits, RowLaw-seen}
use Rattle.ed_notation.proofs.Follow.{reader_part, function_read}
use Rattle.ed_notation.proofs.Least.{found_is}
use Rattle.ed_notation.proofs.Rows.{RowLaw, EndsItem, as_part, causes}

-- what items say of the rows of a tape, from where the reader is: the fault, or the entry
pub record TellsFault (p : Reader) (tape : List ℕ) (row : ℕ) (cause : TapeCause) : Type 0 where
  pub offset : ℕ
  pub row_is : row ≡ p.row + offset
  pub breaks : Breaks p.size p.words p.notation tape offset cause

pub record TellsEntry (p : Reader) (tape : List ℕ) (e : TapeEntry) : Type 0 where
  pub read : ℕ
  pub rows_are : e.rows ≡ p.row + read
  pub comes : RowsReachEntry p.words p.notation p.cost tape (record e { rows = read })

abbrev pub Tells : Reader → List ℕ → Verdict → Type 0
Tells p tape (Faulty row cause) = TellsFault p tape row cause
Tells p tape (Arrived e) = TellsEntry p tape e

-- a rule that is broken in the rows after an item
pub broken_later : {z : Size} {words : List ℕ} {start : NotationState} (w : Written) {rows : List ℕ} {row : ℕ}
    {cause : TapeCause} → IsWritten w → is_entry start (item w) ≡ false
    → Breaks z words (act words start (item w)) rows row cause
    → Breaks z words start (rows_of w ++ rows) (length (rows_of w) + row) cause
broken_later w good goes b =
    let s = b.stands in
    record {
      stands = record {
        before = w ∷ s.before;
        part = s.part;
        rest = s.rest;
        are_read = (good, goes, s.are_read);
        is_part = s.is_part;
        rows_are = ap (λ x. rows_of w ++ x) s.rows_are ∙ sym (append_assoc (rows_of w) _ _);
        row_is = omega (arith, s.row_is, length-append (rows_of w) (spelled_rows s.before));
      };
      breaks = b.breaks;
    }

-- a rule that is broken after a part of an item
pub broken_at : {z : Size} {words : List ℕ} {start : NotationState} (part : Option Begun) (rest : List ℕ)
    {cause : TapeCause} → IsPart part → is_broken z words start part rest cause ≡ true
    → Breaks z words start (part_rows part ++ rest) (length (part_rows part)) cause
broken_at part rest is h = record {
  stands = record {
    before = [];
    part = part;
    rest = rest;
    are_read = tt;
    is_part = is;
    rows_are = refl;
    row_is = omega arith;
  };
  breaks = h;
}

-- one more item before rows whose verdict is known
before : (p : Reader) (w : Written) (rows : List ℕ) (v : Verdict) → IsWritten w → is_entry p.notation (item w) ≡ false
    → Tells (behind p w) rows v → Tells p (rows_of w ++ rows) v
before p w rows (Faulty row cause) good goes t = record {
  offset = length (rows_of w) + t.offset;
  row_is = omega (arith, t.row_is);
  breaks = broken_later w good goes t.breaks;
}
before p w rows (Arrived e) good goes t =
    let c = t.comes in
    record {
      read = length (rows_of w) + t.read;
      rows_are = omega (arith, t.rows_are);
      comes = record {
        before = w ∷ c.before;
        last = c.last;
        are_read = (good, goes, c.are_read);
        is_written = c.is_written;
        notation_is = c.notation_is;
        is_entry = c.is_entry;
        rows_are = ap (λ x. rows_of w ++ x) c.rows_are ∙ sym (append_assoc (rows_of w) _ _);
        last_is = c.last_is;
        at_is = c.at_is;
        word_is = c.word_is;
        cost_is = omega (arith, c.cost_is);
        read_is = omega (arith, c.read_is, length-append (rows_of w) (spelled_rows c.before));
      };
    }

at_end : (p : Reader) (part : Option Begun) (rest : List ℕ) (cause : TapeCause) → IsPart part
    → is_broken p.size p.words p.notation part rest cause ≡ true
    → TellsFault p (part_rows part ++ rest) (inside p part).row cause
at_end p part rest cause is h =
    record { offset = length (part_rows part); row_is = refl; breaks = broken_at part rest is h }

-- what is known of rows after every part of an item
abbrev Told : List ℕ → Type 0
Told rows = (p : Reader) (part : Option Begun) → IsDirective p.notation.directive → IsPart part
    → Tells p (part_rows part ++ rows) (reads (inside p part) (reader_part part) rows)

-- a row inside an item
module _ (p : Reader) (b : Begun) (c : ℕ) (rows : List ℕ) (told : Told rows) (set : IsDirective p.notation.directive)
    (good : IsBegun b) where
  abbrev here : Reader
  here = inside p (Some b)

  abbrev w : Written
  w = record { begun = b; end = c }

  -- it ends an item that is not an entry item
  by_end : {m : NotationState} {n : ℕ} → EndsItem (row_kind c) p.words p.notation b c m n → IsDirective m.directive
      → Tells p (begun_rows b ++ (c ∷ rows)) (reads (passed here 1 n m) None rows)
  by_end {m} {n} x u =
      let d = subst (λ (y : NotationState). IsDirective y.directive) x.notation_is u in
      let l = length-append (begun_rows b) (c ∷ []) in
      let row_is : p.row + length (rows_of w) + 0 ≡ here.row + 1 = omega (arith, l) in
      let cost_is : p.cost + cost_of p.notation w + 0 ≡ here.cost + n = omega (arith, x.cost_is) in
      let v = reads (passed here 1 n (act p.words p.notation (item w))) None rows in
      let ih : Tells (behind p w) rows v = (rw (row_is, cost_is) at (told (behind p w) None d tt)) in
      let e : rows_of w ++ rows ≡ begun_rows b ++ (c ∷ rows) = append_assoc (begun_rows b) (c ∷ []) rows in
      let is : IsWritten w = record { begun = good; ended = x.ended } in
      rw (x.notation_is) (rw (← e) (before p w rows v is x.goes_on ih))

  by_taken : (t : RowEffect) → IsEffectInRange (setting_of p.notation) t
      → RowLaw (row_kind c) p.size p.words p.notation b c t
      → Tells p (begun_rows b ++ (c ∷ rows)) (follow here (as_part b) c rows t)
  by_taken (Refused cause) u law =
      let is_broken = found_is (λ x. breaks x (row_kind c) p.size p.words p.notation b c) causes cause law in
      at_end p (Some b) (c ∷ rows) cause good is_broken
  by_taken (Longer i n) u law =
      let x = law.2 in
      let l = ap (λ (y : List ℕ). length y) x.rows_are in
      let m = length-append (begun_rows b) (c ∷ []) in
      let row_is : p.row + length (begun_rows x.next) ≡ here.row + 1 = omega (arith, l, m) in
      let cost_is : p.cost + begun_cost x.next ≡ here.cost + n = omega (arith, x.cost_is) in
      let v = reads (passed here 1 n p.notation) (Some (as_part x.next)) rows in
      let ih : Tells p (begun_rows x.next ++ rows) v = (rw (row_is, cost_is) at (told p (Some x.next) set x.good)) in
      let e : begun_rows x.next ++ rows ≡ begun_rows b ++ (c ∷ rows) =
      ap (λ y. y ++ rows) x.rows_are ∙ append_assoc (begun_rows b) (c ∷ []) rows in
      rw (x.part_is) (rw (← e) ih)
  by_taken (Entered at) u law =
      let x = law.1 in
      let l = length-append (begun_rows b) (c ∷ []) in
      record {
        read = length (rows_of w);
        rows_are = omega (arith, l);
        comes = record {
          before = [];
          last = w;
          are_read = tt;
          is_written = record { begun = good; ended = x.ended };
          notation_is = refl;
          is_entry = x.entered;
          rows_are = sym (append_assoc (begun_rows b) (c ∷ []) rows);
          last_is = refl;
          at_is = x.at_is;
          word_is = refl;
          cost_is = omega (arith, x.cost_is);
          read_is = omega arith;
        };
      }
  by_taken t u law = by_end law.1 (u.0 set)

  after_row : Tells p (begun_rows b ++ (c ∷ rows)) (reads here (Some (as_part b)) (c ∷ rows))
  unfolding reading_on
  after_row =
      by_taken _ (seen_fits p.size p.words p.notation b c good) (RowLaw-seen p.size p.words p.notation b c set good)

-- a function row
by_function : (p : Reader) (f : ℕ) (rows : List ℕ) {t : Bool} → Told rows → IsDirective p.notation.directive
    → nat_lt f 32 ≡ t → Tells p (f ∷ rows) (reads (inside p None) None (f ∷ rows))
by_function p f rows {t = true} told d h =
    let good : IsBegun (record { function = f; digits = []; mark = false }) =
    record { function = ltb-true f 32 h; digits = tt; fits = lit≤ tt } in
    let row_is : p.row + 0 + 1 ≡ p.row + 1 = omega arith in
    let cost_is : p.cost + 0 + 6 ≡ p.cost + 6 = omega arith in
    rw (function_read _ f rows h)
    (rw (row_is, cost_is) (told p (Some (record { function = f; digits = []; mark = false })) d good))
by_function p f rows {t = false} told d h =
    rw (function_read _ f rows h) (at_end p None (f ∷ rows) BadRow tt (rw h refl))

pub Told-tells : (rows : List ℕ) → Told rows
unfolding reading_on
Told-tells (f ∷ rows) p None d is = by_function p f rows (Told-tells rows) d refl
Told-tells (c ∷ rows) p (Some b) d is = after_row p b c rows (Told-tells rows) d is
Told-tells [] p x d is = at_end p x [] EndOfTape is refl
