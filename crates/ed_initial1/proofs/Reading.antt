-- The reading of a tape row by row, and that it finds the one fault that the rules give, or the one program.
use Rattle.ed_initial1.proofs.Kit.{append-nil, append_assoc, length-append, eqb-true, digits_more, number_more, [], ap}
use Rattle.ed_initial1.proofs.Kit.{arith, Bool, if◌then◌else◌, length, List, lit≤, nat_eq, nat_lt, None, Option, refl}
use Rattle.ed_initial1.proofs.Kit.{Some, true, ℕ, ◌*◌, ◌++◌, ◌+◌, ◌<◌, ◌∷◌, ◌≡◌, ◌≤◌, digits_number, BeginsWith}
use Rattle.ed_initial1.proofs.Kit.{breaks1, Breaks1, is_broken1, is_first, is_none, IsLoading, IsPart1, part_rows1}
use Rattle.ed_initial1.proofs.Kit.{ReachesEntry1, Tape, WellFormed1, AreItems, Begun1, ending_row, IsBegun1, IsFirst}
use Rattle.ed_initial1.proofs.Kit.{Item1, item_number, rows_of1, spelled_rows1, row_effect1, Tape1Cause, BadRow}
use Rattle.ed_initial1.proofs.Kit.{EndOfTape, PartialItem1, RowEffect1, Ended, Longer, Refused, rules}
use Rattle.ed_notation.proofs.Kit.{eqb-false, leb-true, ltb-false, ltb-true, if_means}
use Rattle.ed_initial1.specs.Reading.{end_effect1}

-- an item so far, as the plain program has it
abbrev pub part_of : Begun1 → PartialItem1
part_of b = record { function = b.function; number = digits_number 0 b.digits }

-- an item so far with a digit row more, and one begun by a function row
abbrev pub longer : Begun1 → ℕ → Begun1
longer b c = record { function = b.function; digits = b.digits ++ (c ∷ []) }

abbrev pub began : ℕ → Begun1
began c = record { function = c; digits = [] }

abbrev pub ended : List Item1 → Begun1 → Bool → List Item1
ended before b long = before ++ (record { begun = b; long = long } ∷ [])

-- the location e of T e S, and whether the items reach up to it
abbrev pub end_of : List Item1 → ℕ
end_of [] = 0
end_of (i ∷ is) = item_number i

abbrev pub reaches_end : List Item1 → Bool
reaches_end is = nat_eq (31 + length is) (end_of is)

pub data Verdict : Type 0 where
  Faulty : ℕ → Tape1Cause → Verdict
  Whole : Tape → Verdict

unfoldable pub read : ℕ → List Item1 → Option Begun1 → List ℕ → Verdict
read row before part [] = Faulty row EndOfTape
read row before None (c ∷ rest) = if nat_lt c 32 then read (row + 1) before (Some (began c)) rest else Faulty row BadRow
read row before (Some b) (c ∷ rest) = elim (row_effect1 (is_none before) (part_of b) c) [
  | Refused cause ↦ Faulty row cause
  | Longer next ↦ read (row + 1) before (Some (longer b c)) rest
  | Ended long ↦ if reaches_end (ended before b long)
      then Whole (record { end = end_of (ended before b long); items = ended before b long; rest = rest })
      else read (row + 1) (ended before b long) None rest
]

-- one item more at the end
pub items_more : (is : List Item1) (i : Item1) → AreItems is → IsBegun1 i.begun → AreItems (is ++ (i ∷ []))
items_more [] i good h = (h, tt)
items_more (x ∷ xs) i good h = (good.0, items_more xs i good.1 h)

spelled_more : (is : List Item1) (i : Item1) (rest : List ℕ)
    → spelled_rows1 (is ++ (i ∷ [])) ++ rest ≡ spelled_rows1 is ++ (rows_of1 i ++ rest)
spelled_more [] i rest = ap (λ x. x ++ rest) (append-nil (rows_of1 i))
spelled_more (x ∷ xs) i rest = search (rules, append_assoc, spelled_more xs i rest)

pub length_spelled : (is : List Item1) (i : Item1)
    → length (spelled_rows1 (is ++ (i ∷ []))) ≡ length (spelled_rows1 is) + length (rows_of1 i)
length_spelled [] i = omega (arith, ap length (append-nil (rows_of1 i)))
length_spelled (x ∷ xs) i = search (rules, length-append, length_spelled xs i)

-- what a row of each kind is
abbrev pub FirstFits : List Item1 → Begun1 → Bool → Type 0
FirstFits [] b long = IsFirst (digits_number 0 b.digits) (record { begun = b; long = long })
FirstFits (i ∷ is) b long = Unit {0}

abbrev pub TakenMeans : List Item1 → Begun1 → ℕ → RowEffect1 → Type 0
TakenMeans before b c (Refused cause) = breaks1 cause before b c ≡ true
TakenMeans before b c (Longer next) = (next ≡ 10 * digits_number 0 b.digits + c) × (c < 10)
    × (10 * digits_number 0 b.digits + c ≤ 32767)
TakenMeans before b c (Ended long) = (c ≡ ending_row long) × FirstFits before b long

first_means : (b : Begun1) (long : Bool) → is_first b (ending_row long) ≡ true
    → IsFirst (digits_number 0 b.digits) (record { begun = b; long = long })
first_means b long h = search (rules, eqb-true, leb-true)

end_means : (before : List Item1) (b : Begun1) (c : ℕ) (long : Bool) → c ≡ ending_row long
    → TakenMeans before b c (end_effect1 (is_none before) (part_of b) c long)
end_means [] b c long row = search (rules, first_means)
end_means (i ∷ is) b c long row = (row, tt)

pub taken_means : (before : List Item1) (b : Begun1) (c : ℕ)
    → TakenMeans before b c (row_effect1 (is_none before) (part_of b) c)
taken_means before b c = search (rules, ltb-true, ltb-false, end_means, eqb-true)

-- a row as it is read
pub record Here (rows : List ℕ) (row : ℕ) (before : List Item1) (part : Option Begun1) (rest : List ℕ) : Type 0 where
  pub good : AreItems before
  pub goes_on : IsLoading before
  pub is_part : IsPart1 part
  pub rows_are : rows ≡ spelled_rows1 before ++ (part_rows1 part ++ rest)
  pub row_is : row ≡ length (spelled_rows1 before) + length (part_rows1 part)

abbrev pub Holds : List ℕ → Verdict → Type 0
Holds rows (Faulty row cause) = Breaks1 rows row cause
Holds rows (Whole t) = ReachesEntry1 rows t

pub Breaks1-faulty : (rows : List ℕ) (row : ℕ) (before : List Item1) (part : Option Begun1)
    (rest : List ℕ) (cause : Tape1Cause)
    → Here rows row before part rest
    → is_broken1 before part rest cause ≡ true → Breaks1 rows row cause
Breaks1-faulty rows row before part rest cause h is = record {
  stands = record {
    before = before;
    part = part;
    rest = rest;
    good = h.good;
    goes_on = h.goes_on;
    is_part = h.is_part;
    rows_are = h.rows_are;
    row_is = h.row_is;
  };
  breaks = is;
}

-- after one more item
pub item_more : {rows : List ℕ} {row : ℕ} {before : List Item1} {b : Begun1} {c : ℕ} (long : Bool) {rest : List ℕ}
    → Here rows row before (Some b) (c ∷ rest) → c ≡ ending_row long
    → rows ≡ spelled_rows1 (ended before b long) ++ rest
item_more {before = before} {b} long {rest} h is = search (rules, append_assoc, spelled_more)

pub begins_more : (before : List Item1) (b : Begun1) (long : Bool) → IsLoading before → FirstFits before b long
    → BeginsWith (end_of (ended before b long)) (ended before b long)
    × (31 + length (ended before b long) ≤ end_of (ended before b long))
begins_more [] b long goes first = (first, omega (arith, first))
begins_more (i ∷ is) b long goes first = search (rules, length-append)

pub goes_on_more : (is : List Item1) → BeginsWith (end_of is) is → 31 + length is < end_of is → IsLoading is
goes_on_more [] first less = absurd first
goes_on_more (i ∷ is) first less = (first, less)

-- after a function row, a digit row and an ending row
pub Here-began : {rows : List ℕ} {row : ℕ} {before : List Item1} {c : ℕ} {rest : List ℕ}
    → Here rows row before None (c ∷ rest) → c < 32 → Here rows (row + 1) before (Some (began c)) rest
Here-began h small = search (rules, lit≤)

pub Here-longer : {rows : List ℕ} {row : ℕ} {before : List Item1} {b : Begun1} {c : ℕ} {rest : List ℕ}
    → Here rows row before (Some b) (c ∷ rest) → c < 10 → 10 * digits_number 0 b.digits + c ≤ 32767
    → Here rows (row + 1) before (Some (longer b c)) rest
Here-longer {before = before} {b} {c} {rest} h digit fits =
    search (rules, digits_more, number_more, append_assoc, length-append)

pub Here-ended : {rows : List ℕ} {row : ℕ} {before : List Item1} {b : Begun1} {c : ℕ} (long : Bool) {rest : List ℕ}
    → Here rows row before (Some b) (c ∷ rest) → TakenMeans before b c (Ended long)
    → (31 + length (ended before b long) ≡ end_of (ended before b long) → ⊥)
    → Here rows (row + 1) (ended before b long) None rest
Here-ended {before = before} {b} long h m off =
    let begins = begins_more before b long h.goes_on m.1 in
    record {
      good = items_more before (record { begun = b; long = long }) h.good h.is_part;
      goes_on = goes_on_more (ended before b long) begins.0 (omega (arith, begins.1, off));
      is_part = tt;
      rows_are = item_more long h m.0;
      row_is = omega (
        arith,
        h.row_is,
        length_spelled before (record { begun = b; long = long }),
        length-append b.digits (ending_row long ∷ []),
      );
    }

-- the result of the rest of the rows, from any row onwards
abbrev Follows : List ℕ → List ℕ → Type 0
Follows rows rest =
    (row : ℕ) (before : List Item1) (part : Option Begun1) → Here rows row before part rest
    → Holds rows (read row before part rest)

abbrev pub follow : ℕ → List Item1 → Begun1 → ℕ → List ℕ → RowEffect1 → Verdict
follow row before b c rest t = elim t [
  | Refused cause ↦ Faulty row cause
  | Longer next ↦ read (row + 1) before (Some (longer b c)) rest
  | Ended long ↦ if reaches_end (ended before b long)
      then Whole (record { end = end_of (ended before b long); items = ended before b long; rest = rest })
      else read (row + 1) (ended before b long) None rest
]

by_taken : {rows rest : List ℕ} → Follows rows rest → {row : ℕ} {before : List Item1} {b : Begun1} {c : ℕ}
    → Here rows row before (Some b) (c ∷ rest) → (t : RowEffect1) → TakenMeans before b c t
    → Holds rows (follow row before b c rest t)
by_taken {rows} {rest} ih {row} {before} {b} {c} h (Refused cause) m =
    Breaks1-faulty rows row before (Some b) (c ∷ rest) cause h m
by_taken ih {row} {before} {b} {c} h (Longer next) m = search (rules, Here-longer)
by_taken {rows} ih {row} {before} {b} h (Ended long) m =
    let is = ended before b long in
    if_means (Holds rows) (reaches_end is) _ _
    (λ e. record {
      rows_are = item_more long h m.0;
      good = items_more before (record { begun = b; long = long }) h.good h.is_part;
      first = (begins_more before b long h.goes_on m.1).0;
      count = eqb-true _ _ e;
    })
    (λ e. ih (row + 1) is None (Here-ended long h m (eqb-false _ _ e)))

pub sound : (rows rest : List ℕ) → Follows rows rest
unfolding read
sound rows [] row before part h = Breaks1-faulty rows row before part [] EndOfTape h refl
sound rows (c ∷ rest) row before None h =
    if_means (Holds rows) (nat_lt c 32) _ _
    (λ small. sound rows rest (row + 1) before (Some (began c)) (Here-began h (ltb-true c 32 small)))
    (λ large. Breaks1-faulty rows row before None (c ∷ rest) BadRow h (rw large refl))
sound rows (c ∷ rest) row before (Some b) h =
    by_taken (sound rows rest) h (row_effect1 (is_none before) (part_of b) c) (taken_means before b c)

-- every tape
abbrev pub verdict : List ℕ → Verdict
verdict rows = read 0 [] None rows

pub Holds-right : (rows : List ℕ) → Holds rows (verdict rows)
Holds-right rows = sound rows rows 0 [] None (record {
  good = tt;
  goes_on = tt;
  is_part = tt;
  rows_are = refl;
  row_is = refl;
})

-- a tape that breaks no rule gives a whole program
pub ReachesEntry1-programmed : (rows : List ℕ) → WellFormed1 rows → (t : Tape) × ReachesEntry1 rows t
ReachesEntry1-programmed rows well = by_verdict (verdict rows) (Holds-right rows)
  where
    by_verdict : (v : Verdict) → Holds rows v → (t : Tape) × ReachesEntry1 rows t
    by_verdict (Faulty row cause) h = absurd (well row cause h)
    by_verdict (Whole t) h = (t, h)
