-- That the plain program over rows makes the table of the items of May 1949 that the rows spell.
use Rattle.ed_page.proofs.Kit.{common_steps, rules, take-append_seam, Digit, length-append, take, ◌*◌, le-ltb, lt-ltb}
use Rattle.ed_page.proofs.Kit.{AreDigits, digits_number, next_row, IsFault1, Tape1Cause, Reply, [], ap, append-nil}
use Rattle.ed_page.proofs.Kit.{append_assoc, arith, Bool, drop, false, get_or, if◌then◌else◌, inl, inr, length, List}
use Rattle.ed_page.proofs.Kit.{nat_lt, None, Option, refl, Some, subst, sym, true, ℕ, ◌++◌, ◌+◌, ◌<◌, ◌∙◌, ◌∷◌, ◌≡◌}
use Rattle.ed_page.proofs.Kit.{◌≤◌, done, Outcome, Gives, item_at, opened_with, IsReplied, IsItemsOutcome1, item_line}
use Rattle.ed_page.proofs.Kit.{OpenItem}
use Rattle.ed_initial1.specs.Checks.{Accepts1, Report1}
use Rattle.ed_initial1.specs.Faults.{IsPart1, part_rows1}
use Rattle.ed_initial1.specs.Items.{AreItems, Begun1, IsBegun1, Item1, rows_of1, spelled_rows1, word1}
use Rattle.ed_report.specs.FirstNotes.{rule1_line}
use Rattle.ed_page.specs.Private.ItemTables.{first_word, table_on1}
use Rattle.ed_page.specs.TapeItems.{item_table1}
use Rattle.ed_page.proofs.ItemRows.{IsOpen, digits_number-larger, with_number}

-- ---- the rows of an item

-- a digit row
digit_row1 : (row location : ℕ) (p : OpenItem) (d : ℕ) (more : List ℕ) → nat_lt d 10 ≡ true
    → table_on1 row location (Some p) (d ∷ more) ≡ table_on1 (row + 1) location (Some (opened_with Digit p d)) more
unfolding table_on1
digit_row1 row location p d more is = rw (is, table_on1) refl

-- digit rows, one after the other
digit_rows1 : (row location : ℕ) (p : OpenItem) (ds more : List ℕ) → AreDigits ds
    → digits_number p.number ds ≤ 32767
    → table_on1 row location (Some p) (ds ++ more)
    ≡ table_on1 (row + length ds) location (Some (with_number p (digits_number p.number ds))) more
digit_rows1 row location p [] more are few = search rules
digit_rows1 row location p (d ∷ ds) more are few =
    let low : p.number ≤ 32767 = let a = digits_number-larger p.number (d ∷ ds) in omega (arith, a, few) in
    let fits : (if nat_lt 32767 p.number then p.number else 10 * p.number + d) ≡ 10 * p.number + d =
    rw (le-ltb 32767 p.number low) refl in
    let same : row + 1 + length ds ≡ row + length (d ∷ ds) = omega arith in
    digit_row1 row location p d (ds ++ more) (lt-ltb d 10 are.0)
    ∙ ap (λ m. table_on1 (row + 1) location (Some (with_number p m)) (ds ++ more)) fits
    ∙ digit_rows1 (row + 1) location (with_number p (10 * p.number + d)) ds more are.1 few
    ∙ ap (λ r. table_on1 r location (Some (with_number p (digits_number p.number (d ∷ ds)))) more) same

-- a row that ends an item
last_row1 : (row location : ℕ) (p : OpenItem) (c : ℕ) (more : List ℕ) → nat_lt c 10 ≡ false
    → table_on1 row location (Some p) (c ∷ more)
    ≡ item_line p.first (row + 1) (Some (location, first_word p c)) ++ table_on1 (row + 1) (location + 1) None more
unfolding table_on1
last_row1 row location p c more is = rw (is, table_on1) refl

-- the rows of an item that has begun
begun_table1 : (row location : ℕ) (b : Begun1) (more : List ℕ) → IsBegun1 b
    → table_on1 row location None (b.function ∷ (b.digits ++ more))
    ≡ table_on1 (row + 1 + length b.digits) location
    (Some (record { first = row; function = b.function; number = digits_number 0 b.digits; mark = false })) more
unfolding table_on1
begun_table1 row location b more is = search (rules, digit_rows1)

-- the rows of a whole item
item_rows1 : (row location : ℕ) (b : Begun1) (long : Bool) (more : List ℕ) → IsBegun1 b
    → let i : Item1 = record { begun = b; long = long } in
    table_on1 row location None (rows_of1 i ++ more)
    ≡ item_line row (row + length (rows_of1 i)) (Some (location, word1 i))
    ++ table_on1 (row + length (rows_of1 i)) (location + 1) None more
item_rows1 row location b long more is = search (rules, append_assoc, length-append, begun_table1, last_row1)

-- the rows of a part of an item
part_table1 : (row location : ℕ) (p : Option Begun1) → IsPart1 p → table_on1 row location None (part_rows1 p) ≡ []
unfolding table_on1
part_table1 row location None is = refl
part_table1 row location (Some b) is =
    ap (λ xs. table_on1 row location None (b.function ∷ xs)) (sym (append-nil b.digits))
    ∙ begun_table1 row location b [] is

-- ---- the rows of items

table_is1 : (row location : ℕ) (is : List Item1) (p : Option Begun1) → AreItems is → IsPart1 p
    → table_on1 row location None (spelled_rows1 is ++ part_rows1 p) ≡ item_table1 row location is
unfolding item_table1
table_is1 row location [] p are part = part_table1 row location p part
table_is1 row location (i ∷ is) p are part =
    let next = row + length (rows_of1 i) in
    ap (table_on1 row location None) (append_assoc (rows_of1 i) (spelled_rows1 is) (part_rows1 p))
    ∙ item_rows1 row location i.begun i.long (spelled_rows1 is ++ part_rows1 p) are.0
    ∙ ap (λ rest. item_line row next (Some (location, word1 i)) ++ rest) (table_is1 next (location + 1) is p are.1 part)

-- what is answered to a tape without a fault
pub program_told1 : {codes : List ℕ} {r : Report1} {count : ℕ} {reply : Reply} → Accepts1 codes r → count ≡ r.rows
    → Gives reply (done (table_on1 0 31 None (take count codes))) → IsReplied IsItemsOutcome1 codes reply
program_told1 {codes} {r} {count} {reply} accepts many tells =
    let is = accepts.tape.items in
    let n : count ≡ length (spelled_rows1 is) = many ∙ ap (λ (x : Report1). x.rows) accepts.report_is in
    let head : take count codes ≡ spelled_rows1 is =
    (λ i. take (n i) (accepts.comes.rows_are i)) ∙ take-append_seam (spelled_rows1 is) accepts.tape.rest in
    let same : table_on1 0 31 None (take count codes) ≡ item_table1 0 31 is =
    ap (table_on1 0 31 None) (head ∙ sym (append-nil (spelled_rows1 is)))
    ∙ table_is1 0 31 is None accepts.comes.good tt in (
      done (item_table1 0 31 is),
      inl (record { tape = accepts.tape; comes = accepts.comes; outcome = refl }),
      subst (λ (out : List ℕ). Gives reply (done out)) same tells,
    )

-- what is answered to a tape with a fault
pub fault_told1 : {codes : List ℕ} {row : ℕ} {cause : Tape1Cause} {reply : Reply} → IsFault1 codes row cause
    → Gives reply (record {
      out = table_on1 0 31 None (take row codes);
      note = rule1_line row cause;
      status = 3;
    })
    → IsReplied IsItemsOutcome1 codes reply
fault_told1 {codes} {row} {cause} {reply} f tells =
    let s = f.is.stands in
    let read = spelled_rows1 s.before ++ part_rows1 s.part in
    let n : row ≡ length read = s.row_is ∙ sym (length-append (spelled_rows1 s.before) (part_rows1 s.part)) in
    let whole : codes ≡ read ++ s.rest = s.rows_are
    ∙ sym (append_assoc (spelled_rows1 s.before) (part_rows1 s.part) s.rest) in
    let head : take row codes ≡ read = (λ i. take (n i) (whole i)) ∙ take-append_seam read s.rest in
    let same : table_on1 0 31 None (take row codes) ≡ item_table1 0 31 s.before =
    ap (table_on1 0 31 None) head ∙ table_is1 0 31 s.before s.part s.good s.is_part in
    let outcome : List ℕ → Outcome = λ (out : List ℕ). record {
      out = out;
      note =
          rule1_line row cause;
      status = 3;
    } in (
      outcome (item_table1 0 31 s.before),
      inr (record { row = row; cause = cause; fault = f; outcome = refl }),
      subst (λ (out : List ℕ). Gives reply (outcome out)) same tells,
    )

-- ---- the loop over rows

-- the table so far, and that of the rows that are left, are the whole
pub record IsTabled1 (row location : ℕ) (part : Option OpenItem) (table rows : List ℕ) : Type 0 where
  pub whole : table ++ table_on1 row location part (drop row rows) ≡ table_on1 0 31 None rows
  pub in_range : IsOpen part
  pub most : location ≤ row + 31

module _ {row location c : ℕ} {table rows : List ℕ} where
  pub tabled_function1 : IsTabled1 row location None table rows → row < length rows → c ≡ get_or rows row c
      → IsTabled1 (row + 1) location (Some (item_at row c)) table rows
  unfolding table_on1
  tabled_function1 t low e = grind (arith, common_steps)

  module _ {p : OpenItem} (t : IsTabled1 row location (Some p) table rows) (low : row < length rows)
      (e : c ≡ get_or rows row c) where
    pub tabled_digit1 : c < 10 → {q : OpenItem} → q ≡ opened_with Digit p c → q.number ≤ 327679
        → IsTabled1 (row + 1) location (Some q) table rows
    tabled_digit1 is {q} same few = search (rules, digit_row1, next_row)

    pub tabled_last1 : 10 ≤ c → {longer : List ℕ} (w : ℕ) → w ≡ first_word p c
        → longer ≡ table ++ item_line p.first (row + 1) (Some (location, w))
        → IsTabled1 (row + 1) (location + 1) None longer rows
    tabled_last1 is {longer} w word line = search (rules, append_assoc, last_row1, next_row)

pub tabled_end1 : {row location : ℕ} {part : Option OpenItem} {table rows : List ℕ}
    → IsTabled1 row location part table rows → length rows ≤ row → table ≡ table_on1 0 31 None rows
unfolding table_on1
tabled_end1 {row} {location} {part} {table} {rows} t past = grind (arith, common_steps)
