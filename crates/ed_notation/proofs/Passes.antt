-- Whatever the items before a row are, the reader reaches the row in the state that the fold gives, or finds a fault
-- before it.
use Rattle.ed_notation.proofs.Kit.{[], append_assoc, Bool, false, inl, inr, length, length-append, List, lit≤, None}
use Rattle.ed_notation.proofs.Kit.{Option, refl, Some, true, ℕ, ◌&&◌, ◌++◌, ◌+◌, ◌<◌, ◌∷◌, ◌≡◌, ◌≤◌, ◌⊎◌, add-zero}
use Rattle.ed_notation.proofs.Kit.{Size, arith, sym, ◌∙◌, AreRead, Breaks, breaks, cause_number, is_broken, IsPart}
use Rattle.ed_notation.proofs.Kit.{part_rows, cost_of, costs, end_cost, fold, is_entry, NotationState, Begun}
use Rattle.ed_notation.proofs.Kit.{begun_rows, IsWritten, item, items, row_kind, rows_of, spelled_rows, Written}
use Rattle.ed_notation.proofs.Kit.{IsDirective, Faulty, reading_on, Verdict, TapeCause, BadRow, EndOfTape, AreSound}
use Rattle.ed_notation.proofs.Kit.{EndsSound}
use Rattle.std.proofs.Common.{not}
use Rattle.ed_notation.specs.Faults.{is_bad_row}
use Rattle.ed_notation.proofs.Follow.{Reader, reads, passed, behind, inside, Goes, reader_part, begun_read}
use Rattle.ed_notation.proofs.Follow.{function_read, to_end, arrived, Goes-ended, Goes-entered, here-faulty}
use Rattle.ed_notation.proofs.Least.{least_of, one_least}

-- the causes other than the first have a number of 2 and more
bad_row : (cause : TapeCause) (t : Bool) → (is_bad_row cause && not t) ≡ true → (2 ≤ cause_number cause) × (t ≡ false)
bad_row BadRow true h = cc
bad_row BadRow false h = (lit≤ tt, refl)
bad_row cause t h = cc

-- one stretch of rows after the other
chained : {v w x : Verdict} {n m d d' : ℕ} {S T : Type 0} → n ≤ m → Goes v w n d S
    → (IsDirective d → Goes w x m d' T) → Goes v x m d' (S × T)
chained l (inl e) h = elim (h e.1) [
  | inl f ↦ inl (e.0 ∙ f.0, f.1)
  | inr f ↦
      inr (record { at = f.at; cause = f.cause; is = e.0 ∙ f.is; before = f.before; unsound = λ s. f.unsound s.1 })
]
chained l (inr e) h = inr (record {
  at = e.at;
  cause = e.cause;
  is = e.is;
  before = omega (arith, l, e.before);
  unsound = λ s. e.unsound s.0;
})

-- an item before a row
one : (p : Reader) (w : Written) (rest : List ℕ) → IsDirective p.notation.directive → IsWritten w
    → is_entry p.notation (item w) ≡ false
    → Goes (reads p None (rows_of w ++ rest)) (reads (behind p w) None rest) (behind p w).row
    (behind p w).notation.directive (EndsSound p.size p.words p.notation w)
one p w rest set good goes =
    let q : Reader = inside p (Some w.begun) in
    let l : q.row + 1 ≡ p.row + length (rows_of w) = omega (arith, length-append (begun_rows w.begun) (w.end ∷ [])) in
    let k : q.cost + end_cost (row_kind w.end) p.notation ≡ p.cost + cost_of p.notation w = omega arith in
    rw (to_end p w rest good, sym l, sym k) (Goes-ended q w rest set good goes)

-- whole items before a row
abbrev pub behind_all : Reader → List Written → Reader
behind_all p ws = passed p (length (spelled_rows ws)) (costs p.words p.notation ws) (fold p.words p.notation (items ws))

pub Goes-many : (before : List Written) (p : Reader) (rest : List ℕ) → IsDirective p.notation.directive
    → AreRead p.words p.notation before
    → Goes (reads p None (spelled_rows before ++ rest)) (reads (behind_all p before) None rest)
    (behind_all p before).row (behind_all p before).notation.directive (AreSound p.size p.words p.notation before)
Goes-many [] p rest set are = rw (add-zero p.row, add-zero p.cost) (inl (refl, set))
Goes-many (w ∷ ws) p rest set are =
    let q : Reader = behind p w in
    let l : q.row + length (spelled_rows ws) ≡ p.row + length (spelled_rows (w ∷ ws)) =
    omega (arith, length-append (rows_of w) (spelled_rows ws)) in
    let k : q.cost + costs p.words q.notation ws ≡ p.cost + costs p.words p.notation (w ∷ ws) = omega arith in
    rw (append_assoc (rows_of w) _ rest, sym l, sym k)
    (chained (omega arith) (one p w _ set are.0 are.1) (λ s. Goes-many ws q rest s are.2))

-- whole items and the entry item after them
pub Goes-entry : (before : List Written) (last : Written) (p : Reader) (rest : List ℕ)
    → IsDirective p.notation.directive → AreRead p.words p.notation before → IsWritten last
    → is_entry (behind_all p before).notation (item last) ≡ true
    → Goes (reads p None (spelled_rows before ++ (rows_of last ++ rest)))
    (arrived (inside (behind_all p before) (Some last.begun)) last rest)
    ((inside (behind_all p before) (Some last.begun)).row + 1) (behind_all p before).notation.directive
    (AreSound p.size p.words p.notation before × EndsSound p.size p.words (behind_all p before).notation last)
Goes-entry before last p rest set are good enters =
    let q : Reader = behind_all p before in
    chained (omega arith) (Goes-many before p _ set are)
    (λ s. rw (to_end q last rest good) (Goes-entered (inside q (Some last.begun)) last rest s good enters))

-- and the part of an item after them
to_part : (p : Reader) (part : Option Begun) (rest : List ℕ) → IsPart part
    → reads p None (part_rows part ++ rest) ≡ reads (inside p part) (reader_part part) rest
to_part p None rest is = rw (add-zero p.row, add-zero p.cost) refl
to_part p (Some b) rest is = begun_read p b rest is

-- if a rule is broken the reader finds a fault, with a number that is no greater
record Refuses (v : Verdict) (row : ℕ) (cause : TapeCause) : Type 0 where
  found : TapeCause
  is : v ≡ Faulty row found
  least : cause_number found ≤ cause_number cause

broken_here : (p : Reader) (part : Option Begun) (rest : List ℕ) (cause : TapeCause) → IsDirective p.notation.directive
    → IsPart part → is_broken p.size p.words p.notation part rest cause ≡ true
    → Refuses (reads p (reader_part part) rest) p.row cause
unfolding reading_on
broken_here p None (c ∷ rest) cause set is h =
    let f = bad_row cause _ h in
    record { found = BadRow; is = function_read p c rest f.1; least = f.0 }
broken_here p (Some b) (c ∷ rest) cause set is h =
    let f = least_of (λ k. breaks k (row_kind c) p.size p.words p.notation b c) cause h in
    record { found = f.found; is = here-faulty p (record { begun = b; end = c }) rest set is f.is; least = f.least }
broken_here p part [] cause set is h = record { found = EndOfTape; is = refl; least = one_least cause }

-- the reader's fault is no later than a broken rule
pub record NoLater (v : Verdict) (row : ℕ) (cause : TapeCause) : Type 0 where
  pub at : ℕ
  pub found : TapeCause
  pub is : v ≡ Faulty at found
  pub least : (at < row) ⊎ ((at ≡ row) × (cause_number found ≤ cause_number cause))

no_later : {v w : Verdict} {n row d : ℕ} {cause : TapeCause} {S : Type 0} → n ≤ row → Goes v w n d S
    → (IsDirective d → Refuses w row cause) → NoLater v row cause
no_later {row = row} l (inl e) f =
    let r = f e.1 in
    record { at = row; found = r.found; is = e.0 ∙ r.is; least = inr (refl, r.least) }
no_later l (inr h) f = record { at = h.at; found = h.cause; is = h.is; least = inl (omega (arith, l, h.before)) }

-- if a tape breaks a rule the reader finds a fault, no later than it
pub broken_found : {z : Size} {words : List ℕ} {start : NotationState} (base : ℕ) {rows : List ℕ} {row : ℕ}
    {cause : TapeCause}
    → IsDirective start.directive → Breaks z words start rows row cause
    → NoLater (reading_on z words 0 base start None rows) row cause
broken_found {z} {words} {start} base {row = row} {cause = cause} set b =
    let s = b.stands in
    let p : Reader = record { size = z; words = words; row = 0; cost = base; notation = start } in
    let q : Reader = behind_all p s.before in
    let r = λ (d : IsDirective q.notation.directive). broken_here _ s.part s.rest cause d s.is_part b.breaks in
    let l : q.row + length (part_rows s.part) ≡ row = omega (arith, s.row_is) in
    rw (s.rows_are) (no_later (omega (arith, s.row_is)) (Goes-many s.before p _ set s.are_read)
    (λ d. rw (to_part q s.part s.rest s.is_part, sym l) (r d)))
