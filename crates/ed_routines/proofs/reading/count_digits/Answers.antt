use Rattle.ed_routines.proofs.Kit.{ap, arith, drop, get_or, length, List, refl, suc, sym, ℕ, ◌+◌, ◌<◌, ◌∙◌, ◌∷◌, ◌≡◌}
use Rattle.ed_routines.proofs.Kit.{◌≤◌, le-ltb, lt-ltb, digit_rows}
use Rattle.std.proofs.Common.{add-one, drop-cons}
use Rattle.std.proofs.lemmas.List.{drop_all}
use Rattle.ed_routines.proofs.reading.count_digits.Goals as goal

-- the rows from one row on
from_row : (rows : List ℕ) (i row : ℕ) → i < length rows → row ≡ get_or rows i row
    → drop i rows ≡ row ∷ drop (suc i) rows
from_row rows i row below is = drop-cons rows i row below ∙ ap (λ x. x ∷ drop (suc i) rows) (sym is)

-- a digit is counted
one_more : (rows : List ℕ) (i row : ℕ) → i < length rows → row ≡ get_or rows i row → row < 10
    → length (digit_rows (drop i rows)) ≡ suc (length (digit_rows (drop (i + 1) rows)))
one_more rows i row below is digit = rw add-one (rw (from_row rows i row below is, lt-ltb row 10 digit) refl)

-- another row ends the digits
other_row : (rows : List ℕ) (i row : ℕ) → i < length rows → row ≡ get_or rows i row → 10 ≤ row
    → length (digit_rows (drop i rows)) ≡ 0
other_row rows i row below is other = rw (from_row rows i row below is, le-ltb row 10 other) refl

-- and so does the end of the tape
no_row : (rows : List ℕ) (i : ℕ) → length rows ≤ i → length (digit_rows (drop i rows)) ≡ 0
no_row rows i past = rw (drop_all i rows past) refl

pub loop-index-preserved : goal.loop-index-preserved
loop-index-preserved c =
    let more = one_more c.args.rows.now c.loop-index.index c.index-rows-index.result c.loop-index-test.true
    c.index-rows-index.is (omega (arith, c.value.ensures.is, c.if-value-ge10.false)) in
    omega (arith, more, c.loop-index.invariant)

pub returns-then-value-ge10-clause-is : goal.returns-then-value-ge10-clause-is
returns-then-value-ge10-clause-is c =
    let none = other_row c.args.rows.now c.loop-index.index c.index-rows-index.result c.loop-index-test.true
    c.index-rows-index.is (omega (arith, c.value.ensures.is, c.if-value-ge10.true)) in
    omega (arith, none, c.loop-index.invariant)

pub returns-clause-is : goal.returns-clause-is
returns-clause-is c =
    let none = no_row c.args.rows.now c.loop-index.index c.loop-index-test.false in
    omega (arith, none, c.loop-index.invariant, c.loop-index.auto.index-end, c.loop-index-test.false)
