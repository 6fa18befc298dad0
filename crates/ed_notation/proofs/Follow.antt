-- The reader goes over rows that spell items as the fold of the items says, or it finds a fault on the way.
use Rattle.ed_notation.proofs.Kit.{[], append_assoc, Bool, false, inl, inr, length, length-append, List, nat_lt, None}
use Rattle.ed_notation.proofs.Kit.{Option, refl, Some, suc, true, true≢false, ℕ, ◌&&◌, ◌++◌, ◌+◌, ◌<◌, ◌∷◌, ◌≡◌, ◌≤◌}
use Rattle.ed_notation.proofs.Kit.{◌⊎◌, and-false, add-zero, le-ltb, lt-ltb, digit, Size, ap, arith, nat_eq, sym, ◌*◌}
use Rattle.ed_notation.proofs.Kit.{◌∙◌, part_rows, act, address, cost_of, end_cost, ending_effect, entering}
use Rattle.ed_notation.proofs.Kit.{NotationState, over, AreDigits, Begun, begun_rows, digits_number, ends, is_empty}
use Rattle.ed_notation.proofs.Kit.{IsBegun, IsWritten, item, item_of, mark_rows, row_kind, rows_of, Written}
use Rattle.ed_notation.proofs.Kit.{IsDirective, Arrived, entry_by, Faulty, part_of, placed_by, reading_on, row_effect}
use Rattle.ed_notation.proofs.Kit.{set_by, setting_of, Verdict, TapeCause, BadRow, RowKind, PartialItem, RowEffect}
use Rattle.ed_notation.proofs.Kit.{Ended, Entered, Longer, Placed, Refused, EndsSound, breaks}
use Rattle.ed_notation.specs.Beginnings.{part_cost}
use Rattle.ed_notation.proofs.Directives.{IsEffectInRange, in_range}
use Rattle.ed_notation.proofs.Rows.{RowLaw, row_law_of, as_part, causes, first, first_of}

-- where the reader is: the store that it reads for, the number of rows and orders before it, and the state of the
-- notation
pub record Reader : Type 0 where
  pub size : Size
  pub words : List ℕ
  pub row : ℕ
  pub cost : ℕ
  pub notation : NotationState

-- the result of its reading from there
abbrev pub reads : Reader → Option PartialItem → List ℕ → Verdict
reads p part rows = reading_on p.size p.words p.row p.cost p.notation part rows

-- the reader this many rows and orders later, in this state
abbrev pub passed : Reader → ℕ → ℕ → NotationState → Reader
passed p rows orders notation = record {
  size = p.size;
  words = p.words;
  row = p.row + rows;
  cost = p.cost + orders;
  notation = notation;
}

-- after an item, and inside one
abbrev pub behind : Reader → Written → Reader
behind p w = passed p (length (rows_of w)) (cost_of p.notation w) (act p.words p.notation (item w))

abbrev pub inside : Reader → Option Begun → Reader
inside p part = passed p (length (part_rows part)) (part_cost part) p.notation

-- what follows a row inside an item
abbrev pub follow : Reader → PartialItem → ℕ → List ℕ → RowEffect → Verdict
follow p part c rows t = elim t [
  | Refused cause ↦ Faulty p.row cause
  | Longer longer k ↦ reads (passed p 1 k p.notation) (Some longer) rows
  | Ended setting k ↦ reads (passed p 1 k (set_by setting p.notation)) None rows
  | Placed at word ↦ reads (passed p 1 17 (placed_by at word p.notation)) None rows
  | Entered at ↦ Arrived (entry_by p.words p.row p.cost p.notation part c rows at)
]

-- what a row is taken for, over the words placed so far
abbrev pub seen : Size → List ℕ → NotationState → Begun → ℕ → RowEffect
seen z words notation b c = row_effect z (row_kind c) (over notation.placed words) (setting_of notation) (as_part b) c

-- it is what the rules say
pub RowLaw-seen : (z : Size) (words : List ℕ) (notation : NotationState) (b : Begun) (c : ℕ)
    → IsDirective notation.directive → IsBegun b
    → RowLaw (row_kind c) z words notation b c (seen z words notation b c)
RowLaw-seen z words notation b c set good = row_law_of z words notation c set b good

-- and its numbers are in range
pub seen_fits : (z : Size) (words : List ℕ) (notation : NotationState) (b : Begun) (c : ℕ) → IsBegun b
    → IsEffectInRange (setting_of notation) (seen z words notation b c)
seen_fits z words notation b c good = in_range z (setting_of notation) (as_part b) (row_kind c) _ c good.fits

abbrev pub reader_part : Option Begun → Option PartialItem
reader_part None = None
reader_part (Some b) = Some (as_part b)

-- a number with more digits is no less
pub number_le : (ds : List ℕ) (n : ℕ) → n ≤ digits_number n ds
number_le [] n = omega arith
number_le (d ∷ ds) n = omega (arith, number_le ds (10 * n + d))

-- a function row
pub function_read : (p : Reader) (f : ℕ) (rows : List ℕ) {t : Bool} → nat_lt f 32 ≡ t
    → reads p None (f ∷ rows)
    ≡ (elim t [ true ↦ reads (passed p 1 6 p.notation) (Some (part_of f)) rows | false ↦ Faulty p.row BadRow ])
unfolding reading_on
function_read p f rows h =
    ap (λ (x : Bool). elim x as (λ y. Verdict) [
      | true ↦ reads (passed p 1 6 p.notation) (Some (part_of f)) rows
      | false ↦ Faulty p.row BadRow
    ]) h

pub function_begins : (p : Reader) (f : ℕ) (rows : List ℕ) → f < 32
    → reads p None (f ∷ rows) ≡ reads (passed p 1 6 p.notation) (Some (part_of f)) rows
function_begins p f rows h = function_read p f rows (lt-ltb f 32 h)

-- digit rows
digits_read : (p : Reader) (ds rest : List ℕ) (f n : ℕ) (blank : Bool) → AreDigits ds → digits_number n ds ≤ 32767
    → reads p (Some (record { function = f; number = n; mark = false; blank = blank })) (ds ++ rest)
    ≡ reads (passed p (length ds) (9 * length ds) p.notation)
    (Some (record { function = f; number = digits_number n ds; mark = false; blank = is_empty ds && blank })) rest
unfolding reading_on
digits_read p [] rest f n blank are fits = rw (add-zero p.row, add-zero p.cost) refl
digits_read p (d ∷ ds) rest f n blank are fits =
    let small : 10 * n + d ≤ 32767 = omega (arith, fits, number_le ds (10 * n + d)) in
    let r : p.row + suc (length ds) ≡ p.row + 1 + length ds = omega arith in
    let k : p.cost + 9 * suc (length ds) ≡ p.cost + 9 + 9 * length ds = omega arith in
    let a = lt-ltb d 10 are.0 in
    let b = le-ltb 32767 _ small in
    let part : PartialItem = record { function = f; number = n; mark = false; blank = blank } in
    let t : row_effect p.size (row_kind d) (over p.notation.placed p.words) (setting_of p.notation) part d
    ≡ Longer (record { function = f; number = 10 * n + d; mark = false; blank = false }) 9 = rw (a, b) refl in
    let ih = digits_read (passed p 1 9 p.notation) ds rest f (10 * n + d) false are.1 fits in
    ap (follow p part d (ds ++ rest)) t ∙ rw (r, k) (ih ∙ rw (and-false (is_empty ds)) refl)

-- a mark, or none
mark_read : (p : Reader) (f : ℕ) (ds rest : List ℕ) (m : Bool)
    → reads p (Some (as_part (record { function = f; digits = ds; mark = false }))) (mark_rows m ++ rest)
    ≡ reads (passed p (length (mark_rows m)) (15 * digit m) p.notation)
    (Some (as_part (record { function = f; digits = ds; mark = m }))) rest
unfolding reading_on
mark_read p f ds rest false = rw (add-zero p.row, add-zero p.cost) refl
mark_read p f ds rest true = rw (and-false (is_empty ds)) refl

-- the rows of an item before its ending
pub begun_read : (p : Reader) (b : Begun) (rest : List ℕ) → IsBegun b
    → reads p None (begun_rows b ++ rest) ≡ reads (inside p (Some b)) (Some (as_part b)) rest
begun_read p b rest good =
    let f = b.function in
    let ds = b.digits in
    let l = length-append ds (mark_rows b.mark) in
    let r : p.row + suc (length (ds ++ mark_rows b.mark)) ≡ p.row + 1 + length ds + length (mark_rows b.mark) =
    omega (arith, l) in
    let k : p.cost + (6 + 9 * length ds + 15 * digit b.mark) ≡ p.cost + 6 + 9 * length ds + 15 * digit b.mark =
    omega arith in
    let q : Reader = passed p 1 6 p.notation in
    let q' : Reader = passed q (length ds) (9 * length ds) p.notation in
    function_begins p f ((ds ++ mark_rows b.mark) ++ rest) good.function
    ∙ ap (λ x. reads q (Some (part_of f)) x) (append_assoc ds (mark_rows b.mark) rest)
    ∙ digits_read q ds (mark_rows b.mark ++ rest) f 0 (nat_eq f 16) good.digits good.fits
    ∙ mark_read q' f ds rest b.mark
    ∙ rw (r, k) refl

-- the rows of a whole item, up to the ending one
pub to_end : (p : Reader) (w : Written) (rest : List ℕ) → IsWritten w
    → reads p None (rows_of w ++ rest) ≡ reads (inside p (Some w.begun)) (Some (as_part w.begun)) (w.end ∷ rest)
to_end p w rest good =
    ap (λ x. reads p None x) (append_assoc (begun_rows w.begun) (w.end ∷ []) rest)
    ∙ begun_read p w.begun _ good.begun

none_first : (f : TapeCause → Bool) (cs : List TapeCause) → ((k : TapeCause) → f k ≡ false) → first_of f cs ≡ None
none_first f [] h = refl
none_first f (c ∷ cs) h = rw (h c) (none_first f cs h)

pub no_rule : (p : Reader) (w : Written) → EndsSound p.size p.words p.notation w
    → first (row_kind w.end) p.size p.words p.notation w.begun w.end ≡ None
no_rule p w s = none_first (λ k. breaks k (row_kind w.end) p.size p.words p.notation w.begun w.end) causes s

-- a fault before a row: the rows up to that row are not sound
pub record Early (v : Verdict) (row : ℕ) (sound : Type 0) : Type 0 where
  pub at : ℕ
  pub cause : TapeCause
  pub is : v ≡ Faulty at cause
  pub before : at < row
  pub unsound : sound → ⊥

-- the verdicts are one and this directive is set, or there is a fault before the row
abbrev pub Goes : Verdict → Verdict → ℕ → ℕ → Type 0 → Type 0
Goes v w row d sound = ((v ≡ w) × IsDirective d) ⊎ Early v row sound

-- the ending row of an item
module _ (p : Reader) (w : Written) (rest : List ℕ) where
  abbrev b : Begun
  b = w.begun

  abbrev c : ℕ
  c = w.end

  abbrev here : Verdict
  here = reads p (Some (as_part b)) (c ∷ rest)

  abbrev next : RowEffect → Verdict
  next t = follow p (as_part b) c rest t

  abbrev r : RowKind
  r = row_kind c

  abbrev first_broken : Option TapeCause
  first_broken = first r p.size p.words p.notation b c

  abbrev pub closed : Reader
  closed = passed p 1 (end_cost r p.notation) (ending_effect r p.words p.notation (item_of b c))

  abbrev pub arrived : Verdict
  arrived = Arrived (entry_by p.words p.row p.cost p.notation (as_part b) c rest (address p.notation.directive))

  abbrev Law : RowEffect → Type 0
  Law t = RowLaw r p.size p.words p.notation b c t

  abbrev Sound : Type 0
  Sound = EndsSound p.size p.words p.notation w

  early : {cause : TapeCause} → first_broken ≡ Some cause → Early (Faulty p.row cause) (p.row + 1) Sound
  early {cause} h = record {
    at = p.row;
    cause = cause;
    is = refl;
    before = omega arith;
    unsound = λ s. let q : Some cause ≡ None = sym h ∙ no_rule p w s in cc;
  }

  refused_by : (t : RowEffect) {cause : TapeCause} → Law t → first_broken ≡ Some cause → next t ≡ Faulty p.row cause
  refused_by (Refused k) {cause} h e = let s : k ≡ cause = cc in rw s refl
  refused_by t {cause} h e = let q : None ≡ Some cause = sym h.0 ∙ e in cc

  -- it breaks a rule
  pub here-faulty : IsDirective p.notation.directive → IsBegun b → {cause : TapeCause} → first_broken ≡ Some cause
      → here ≡ Faulty p.row cause
  unfolding reading_on
  here-faulty set good e = refused_by _ (RowLaw-seen p.size p.words p.notation b c set good) e

  module _ (set : IsDirective p.notation.directive) where
    ended_by : (t : RowEffect) → IsEffectInRange (setting_of p.notation) t → Law t → ends r b ≡ true
        → entering r p.notation ≡ false
        → Goes (next t) (reads closed None rest) closed.row closed.notation.directive Sound
    ended_by (Refused cause) u h e n = inr (early h)
    ended_by (Longer i k) u h e n = absurd (true≢false (sym e ∙ h.1))
    ended_by (Ended m k) u h e n = inl (rw (h.1.notation_is, h.1.cost_is) refl, rw (← h.1.notation_is) (u.0 set))
    ended_by (Placed at word) u h e n =
        inl (rw (h.1.notation_is, sym h.1.cost_is) refl, rw (← h.1.notation_is) (u.0 set))
    ended_by (Entered at) u h e n = absurd (true≢false (sym h.1.entered ∙ n))

    entered_by : (t : RowEffect) → Law t → ends r b ≡ true → entering r p.notation ≡ true
        → Goes (next t) arrived (p.row + 1) p.notation.directive Sound
    entered_by (Refused cause) h e n = inr (early h)
    entered_by (Longer i k) h e n = absurd (true≢false (sym e ∙ h.1))
    entered_by (Entered at) h e n = inl (rw h.1.at_is refl, set)
    entered_by t h e n = absurd (true≢false (sym n ∙ h.1.goes_on))

    -- it ends an item that is not an entry item
    pub Goes-ended : IsWritten w → entering r p.notation ≡ false
        → Goes here (reads closed None rest) closed.row closed.notation.directive Sound
    unfolding reading_on
    Goes-ended good n = ended_by _ (seen_fits p.size p.words p.notation b c good.begun)
        (RowLaw-seen p.size p.words p.notation b c set good.begun) good.ended n

    -- it ends the entry item
    pub Goes-entered : IsWritten w → entering r p.notation ≡ true
        → Goes here arrived (p.row + 1) p.notation.directive Sound
    unfolding reading_on
    Goes-entered good n = entered_by _ (RowLaw-seen p.size p.words p.notation b c set good.begun) good.ended n
