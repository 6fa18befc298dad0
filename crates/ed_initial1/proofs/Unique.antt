-- The reading finds each fault and each program that the rules give: so a tape has exactly one fault or exactly one
-- program.
use Rattle.ed_initial1.proofs.Kit.{eq-eqb, ne_eqb, append-nil, append_assoc, length-append, eqb-true, AreDigits}
use Rattle.ed_initial1.proofs.Kit.{number_le, number_more, [], ap, arith, Bool, false, if◌then◌else◌, inl, inr, length}
use Rattle.ed_initial1.proofs.Kit.{List, nat_lt, None, Option, refl, Some, suc, sym, true, ℕ, ◌*◌, ◌++◌, ◌+◌, ◌<◌, ◌∙◌}
use Rattle.ed_initial1.proofs.Kit.{◌∷◌, ◌≡◌, ◌≤◌, and_parts, digits_number, BeginsWith, breaks1, Breaks1, is_broken1}
use Rattle.ed_initial1.proofs.Kit.{is_first, is_none, IsFault1, IsLoading, IsPart1, part_rows1, ReachesEntry1, Tape}
use Rattle.ed_initial1.proofs.Kit.{WellFormed1, AreItems, Begun1, begun_rows1, ending_row, IsBegun1, IsFirst, Item1}
use Rattle.ed_initial1.proofs.Kit.{rows_of1, spelled_rows1, row_effect1, Tape1Cause, BadRow, EndOfTape, FirstWord}
use Rattle.ed_initial1.proofs.Kit.{Ended, Longer, Refused, rules}
use Rattle.ed_notation.proofs.Kit.{◌⊎◌, le-leb, le-ltb, lt-ltb}
use Rattle.std.proofs.lemmas.Bool.{not-true}
use Rattle.ed_initial1.specs.Checks.{EachTapeHasOneVerdict}
use Rattle.ed_initial1.specs.Faults.{rule}
use Rattle.ed_initial1.specs.declared.cause.Tape1Cause.TheVariants.{NumberTooLarge}
use Rattle.ed_initial1.proofs.Reading.{Verdict, Faulty, Whole, Holds, Holds-right, read, verdict, follow, part_of}
use Rattle.ed_initial1.proofs.Reading.{longer, began, end_of, reaches_end, FirstFits}

digit_effect : (before : List Item1) (b : Begun1) (c : ℕ) → c < 10 → 10 * digits_number 0 b.digits + c ≤ 32767
    → row_effect1 (is_none before) (part_of b) c ≡ Longer (10 * digits_number 0 b.digits + c)
digit_effect before b c h fits = rw (lt-ltb c 10 h, le-ltb 32767 (10 * digits_number 0 b.digits + c) fits) refl

is_first_of : (b : Begun1) (long : Bool) → IsFirst (digits_number 0 b.digits) (record { begun = b; long = long })
    → is_first b (ending_row long) ≡ true
is_first_of b true f = absurd (let s = f.short in cc)
is_first_of b false f = search (rules, eq-eqb, le-leb)

end_is_taken : (before : List Item1) (b : Begun1) (long : Bool) → FirstFits before b long
    → row_effect1 (is_none before) (part_of b) (ending_row long) ≡ Ended long
end_is_taken [] b false f = rw (is_first_of b false f) refl
end_is_taken [] b true f = rw (is_first_of b true f) refl
end_is_taken (i ∷ is) b false f = refl
end_is_taken (i ∷ is) b true f = refl

more_digits : Begun1 → List ℕ → Begun1
more_digits b ds = record { function = b.function; digits = b.digits ++ ds }

reads_digits : (before : List Item1) (row : ℕ) (b : Begun1) (ds rest : List ℕ) → AreDigits ds
    → digits_number (digits_number 0 b.digits) ds ≤ 32767
    → read row before (Some b) (ds ++ rest) ≡ read (row + length ds) before (Some (more_digits b ds)) rest
unfolding read more_digits
reads_digits before row b [] rest good fits = search (rules, append-nil)
reads_digits before row b (d ∷ ds) rest good fits =
    let n : 10 * digits_number 0 b.digits + d ≤ 32767 =
    omega (arith, number_le ds (10 * digits_number 0 b.digits + d)) in
    let sum : digits_number 0 (b.digits ++ (d ∷ [])) ≡ 10 * digits_number 0 b.digits + d = number_more b.digits 0 d in
    let e : row + 1 + length ds ≡ row + suc (length ds) = omega arith in
    ap (λ t. follow row before b d (ds ++ rest) t) (digit_effect before b d good.0 n)
    ∙ reads_digits before (row + 1) (longer b d) ds rest good.1 (rw sum fits)
    ∙ (λ i. read (e i) before
    (Some (record { function = b.function; digits = append_assoc b.digits (d ∷ []) ds i })) rest)

-- after an item
abbrev behind : ℕ → List Item1 → List ℕ → Verdict
behind row is rest =
    if reaches_end is then Whole (record { end = end_of is; items = is; rest = rest }) else read row is None rest

begin_reads : (before : List Item1) (row : ℕ) (b : Begun1) (rest : List ℕ) → IsBegun1 b
    → read row before None (begun_rows1 b ++ rest) ≡ read (row + length (begun_rows1 b)) before (Some b) rest
unfolding read more_digits
begin_reads before row b rest good =
    let e : row + 1 + length b.digits ≡ row + suc (length b.digits) = omega arith in
    rw (lt-ltb b.function 32 good.function)
    (reads_digits before (row + 1) (began b.function) b.digits rest good.digits good.fits
    ∙ (λ i. read (e i) before (Some b) rest))

reads_item : (before : List Item1) (row : ℕ) (i : Item1) (rest : List ℕ) → IsBegun1 i.begun
    → FirstFits before i.begun i.long
    → read row before None (rows_of1 i ++ rest) ≡ behind (row + length (rows_of1 i)) (before ++ (i ∷ [])) rest
unfolding read
reads_item before row i rest good first =
    let b = i.begun in
    let e : row + length (begun_rows1 b) + 1 ≡ row + length (rows_of1 i) =
    omega (arith, length-append b.digits (ending_row i.long ∷ [])) in
    ap (λ x. read row before None x) (append_assoc (begun_rows1 b) (ending_row i.long ∷ []) rest)
    ∙ begin_reads before row b (ending_row i.long ∷ rest) good
    ∙ ap (λ t. follow (row + length (begun_rows1 b)) before b (ending_row i.long) rest t)
    (end_is_taken before b i.long first)
    ∙ ap (λ x. behind x (before ++ (i ∷ [])) rest) e

first_fits : (before : List Item1) (i : Item1) (is : List Item1)
    → BeginsWith (end_of (before ++ (i ∷ is))) (before ++ (i ∷ is)) → FirstFits before i.begun i.long
first_fits [] i is h = h
first_fits (x ∷ xs) i is h = tt

end_same : (before : List Item1) (i : Item1) (is : List Item1)
    → end_of (before ++ (i ∷ [])) ≡ end_of (before ++ (i ∷ is))
end_same [] i is = refl
end_same (x ∷ xs) i is = refl

goes_on_by : (before : List Item1) (i : Item1) (is : List Item1)
    → 31 + length (before ++ (i ∷ [])) < end_of (before ++ (i ∷ is))
    → reaches_end (before ++ (i ∷ [])) ≡ false
goes_on_by before i is h = ne_eqb _ _ (omega (arith, h, end_same before i is))

snoc : (before : List Item1) (i : Item1) (is : List Item1) → (before ++ (i ∷ [])) ++ is ≡ before ++ (i ∷ is)
snoc before i is = append_assoc before (i ∷ []) is

less_of : (is : List Item1) (i : Item1) (js : List Item1) → IsLoading (is ++ (i ∷ js))
    → BeginsWith (end_of (is ++ (i ∷ js))) (is ++ (i ∷ js)) × (31 + length (is ++ (i ∷ js)) < end_of (is ++ (i ∷ js)))
less_of [] i js h = h
less_of (x ∷ xs) i js h = h

-- items after which loading goes on
reads_all : (is before : List Item1) (row : ℕ) (rest : List ℕ) → AreItems is → IsLoading (before ++ is)
    → read row before None (spelled_rows1 is ++ rest) ≡ read (row + length (spelled_rows1 is)) (before ++ is) None rest
reads_all [] before row rest good goes = search (rules, append-nil)
reads_all (i ∷ is) before row rest good goes =
    let l = less_of before i is goes in
    let short : length (before ++ (i ∷ [])) ≤ length (before ++ (i ∷ is)) =
    omega (arith, length-append before (i ∷ []), length-append before (i ∷ is)) in
    let on = goes_on_by before i is (omega (arith, l.1)) in
    let e : row + length (rows_of1 i) + length (spelled_rows1 is) ≡ row + length (rows_of1 i ++ spelled_rows1 is) =
    omega (arith, length-append (rows_of1 i) (spelled_rows1 is)) in
    ap (λ x. read row before None x) (append_assoc (rows_of1 i) (spelled_rows1 is) rest)
    ∙ reads_item before row i (spelled_rows1 is ++ rest) good.0 (first_fits before i is l.0)
    ∙ rw on (reads_all is (before ++ (i ∷ [])) (row + length (rows_of1 i)) rest good.1 (rw (snoc before i is) goes)
    ∙ (λ k. read (e k) (snoc before i is k) None rest))

-- items that give a program
reads_whole : (i : Item1) (is before : List Item1) (row : ℕ) (rest : List ℕ) → AreItems (i ∷ is)
    → BeginsWith (end_of (before ++ (i ∷ is))) (before ++ (i ∷ is))
    → 31 + length (before ++ (i ∷ is)) ≡ end_of (before ++ (i ∷ is))
    → read row before None (spelled_rows1 (i ∷ is) ++ rest)
    ≡ Whole (record { end = end_of (before ++ (i ∷ is)); items = before ++ (i ∷ is); rest = rest })
reads_whole i [] before row rest good first count =
    ap (λ x. read row before None (x ++ rest)) (append-nil (rows_of1 i))
    ∙ reads_item before row i rest good.0 (first_fits before i [] first)
    ∙ rw (eq-eqb _ _ count) refl
reads_whole i (j ∷ js) before row rest good first count =
    let same = snoc before i (j ∷ js) in
    let on = goes_on_by before i (j ∷ js)
    (omega (arith, length-append before (i ∷ []), length-append before (i ∷ (j ∷ js)))) in
    ap (λ x. read row before None x) (append_assoc (rows_of1 i) (spelled_rows1 (j ∷ js)) rest)
    ∙ reads_item before row i (spelled_rows1 (j ∷ js) ++ rest) good.0 (first_fits before i (j ∷ js) first)
    ∙ rw on (reads_whole j js (before ++ (i ∷ [])) (row + length (rows_of1 i)) rest good.1 (rw same first)
    (rw same count)
    ∙ (λ k. Whole (record { end = end_of (same k); items = same k; rest = rest })))

-- a fault
refused : (before : List Item1) (b : Begun1) (c : ℕ) (cause : Tape1Cause) → breaks1 cause before b c ≡ true
    → row_effect1 (is_none before) (part_of b) c ≡ Refused cause
refused before b c EndOfTape h = absurd (cc)
refused before b c BadRow h = search rules
refused before b c NumberTooLarge h = let p = and_parts (nat_lt c 10) _ h in rw (p.0, p.1) refl
refused before b c FirstWord h = search (rules, le-ltb, eqb-true)

reads_fault : (row : ℕ) (before : List Item1) (part : Option Begun1) (rest : List ℕ) (cause : Tape1Cause)
    → is_broken1 before part rest cause ≡ true
    → read row before part rest ≡ Faulty row cause
unfolding read
reads_fault row before part [] EndOfTape h = refl
reads_fault row before part [] cause h = absurd (cc)
reads_fault row before None (c ∷ rest) BadRow h = rw (not-true (nat_lt c 32) h) refl
reads_fault row before None (c ∷ rest) cause h = absurd (cc)
reads_fault row before (Some b) (c ∷ rest) cause h = ap (λ t. follow row before b c rest t) (refused before b c cause h)

reads_part : (before : List Item1) (row : ℕ) (part : Option Begun1) (rest : List ℕ) → IsPart1 part
    → read row before None (part_rows1 part ++ rest) ≡ read (row + length (part_rows1 part)) before part rest
reads_part before row None rest good = let e : row ≡ row + 0 = omega arith in ap (λ x. read x before None rest) e
reads_part before row (Some b) rest good = begin_reads before row b rest good

finds_fault : (rows : List ℕ) (row : ℕ) (cause : Tape1Cause) → Breaks1 rows row cause → verdict rows ≡ Faulty row cause
finds_fault rows row cause f =
    let s = f.stands in
    let e : 0 + length (spelled_rows1 s.before) + length (part_rows1 s.part) ≡ row = omega (arith, s.row_is) in
    ap (λ x. read 0 [] None x) s.rows_are
    ∙ reads_all s.before [] 0 (part_rows1 s.part ++ s.rest) s.good s.goes_on
    ∙ reads_part s.before (0 + length (spelled_rows1 s.before)) s.part s.rest s.is_part
    ∙ ap (λ x. read x s.before s.part s.rest) e
    ∙ reads_fault row s.before s.part s.rest cause f.breaks

finds_items : (is : List Item1) (e : ℕ) (rest : List ℕ) → AreItems is → BeginsWith e is → 31 + length is ≡ e
    → read 0 [] None (spelled_rows1 is ++ rest) ≡ Whole (record { end = e; items = is; rest = rest })
finds_items [] e rest good first count = absurd first
finds_items (i ∷ is) e rest good first count = search (rules, reads_whole)

finds_program : (rows : List ℕ) (t : Tape) → ReachesEntry1 rows t → verdict rows ≡ Whole t
finds_program rows t c = ap (λ x. read 0 [] None x) c.rows_are ∙ finds_items t.items t.end t.rest c.good c.first c.count

-- a tape that gives a program breaks no rule; a tape gives at most one program, and has at most one fault, at one
-- row
pub no_fault : (rows : List ℕ) (t : Tape) → ReachesEntry1 rows t → WellFormed1 rows
no_fault rows t c row cause f = let e : Whole t ≡ Faulty row cause = sym (finds_program rows t c)
    ∙ finds_fault rows row cause f in cc

one_program : (rows : List ℕ) (t u : Tape) → ReachesEntry1 rows t → ReachesEntry1 rows u → t ≡ u
one_program rows t u c d = let e : Whole t ≡ Whole u = sym (finds_program rows t c) ∙ finds_program rows u d in cc

one_broken : (rows : List ℕ) (r q : ℕ) (a b : Tape1Cause) → Breaks1 rows r a → Breaks1 rows q b → (r ≡ q) × (a ≡ b)
one_broken rows r q a b f g =
    let e : Faulty r a ≡ Faulty q b = sym (finds_fault rows r a f) ∙ finds_fault rows q b g in (cc, cc)

one_fault : (rows : List ℕ) (r q : ℕ) (a b : Tape1Cause) → IsFault1 rows r a → IsFault1 rows q b → (r ≡ q) × (a ≡ b)
one_fault rows r q a b f g = one_broken rows r q a b f.is g.is

-- so what is broken is the fault
pub fault_of : (rows : List ℕ) (row : ℕ) (cause : Tape1Cause) → Breaks1 rows row cause → IsFault1 rows row cause
fault_of rows row cause f = record {
  is = f;
  least = λ r other g.
      let same = one_broken rows row r cause other f g in
      let number = ap rule same.1 in
      inr (same.0, omega arith);
}

-- every tape has one verdict
pub one_verdict : EachTapeHasOneVerdict
one_verdict rows = record {
  some = by_verdict (verdict rows) (Holds-right rows);
  program = one_program rows;
  fault = one_fault rows;
  apart = no_fault rows;
}
  where
    by_verdict : (v : Verdict) → Holds rows v
        → ((t : Tape) × ReachesEntry1 rows t) ⊎ ((row : ℕ) × (cause : Tape1Cause) × IsFault1 rows row cause)
    by_verdict (Whole t) h = inl (t, h)
    by_verdict (Faulty row cause) h = inr (row, cause, fault_of rows row cause h)
