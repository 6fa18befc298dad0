-- That the plain program over rows makes the table of the items that the rows spell.
use Rattle.ed_page.proofs.Kit.{common_steps, rules, take-append_seam, Size, cleared_cells, TapeCause, length-append}
use Rattle.ed_page.proofs.Kit.{take, ◌*◌, IsFault, AreDigits, digits_number, next_row, opening_notation, Reply, [], ap}
use Rattle.ed_page.proofs.Kit.{append-nil, append_assoc, arith, drop, false, get_or, inl, inr, length, List, None}
use Rattle.ed_page.proofs.Kit.{Option, refl, Some, subst, sym, true, ℕ, ◌++◌, ◌+◌, ◌<◌, ◌^◌, ◌∙◌, ◌∷◌, ◌≡◌, ◌≤◌, done}
use Rattle.ed_page.proofs.Kit.{Outcome, Gives, item_at, opened_with, IsReplied, IsItemsOutcome, item_line, OpenItem}
use Rattle.ed_notation.proofs.Kit.{AreRead, IsPart, part_rows, act, NotationState, over, Begun, IsBegun, IsWritten}
use Rattle.ed_notation.proofs.Kit.{item, mark_rows, row_kind, rows_of, spelled_rows, Written, AreWritten}
use Rattle.std.proofs.Math.Seq.{take-append-add}
use Rattle.ed_notation.specs.Checks.{Accepts}
use Rattle.ed_notation.specs.Reports.{Report}
use Rattle.ed_notation.specs.declared.item.Item.{Item}
use Rattle.ed_notation.proofs.Cuts.{spelled-append}
use Rattle.ed_report.specs.Notes.{rule_line}
use Rattle.ed_page.specs.Private.ItemTables.{IsSetBelow, cells_with, first_notation, is_last_row, notation_state}
use Rattle.ed_page.specs.Private.ItemTables.{notation_after, placing_over, table_on, whole_item}
use Rattle.ed_page.specs.TapeItems.{PlacingLaw, item_table, placing, tape_table}
use Rattle.ed_page.specs.declared.items.Notation.{Notation}

-- ---- what the fold places

pub placing_law : PlacingLaw
placing_law words note i = search rules

-- ---- the state over one store

-- a state of the notation is a note over the words of a store
pub record IsNoteOver (words : List ℕ) (note : NotationState) (n : Notation) : Type 0 where
  pub directive : n.directive ≡ note.directive
  pub theta : n.theta ≡ note.theta
  pub contents : n.contents.words ≡ over note.placed words

module _ {words : List ℕ} {note : NotationState} {n : Notation} (o : IsNoteOver words note n) (i : Item) where
  pub same_placing : placing_over n i ≡ placing words note i
  same_placing = search rules

  same_directive : (act n.contents.words (notation_state n) i).directive ≡ (act words note i).directive
  same_directive = search rules

  same_theta : (act n.contents.words (notation_state n) i).theta ≡ (act words note i).theta
  same_theta = search rules

  same_contents : (cells_with (placing_over n i) n.contents).words ≡ over (act words note i).placed words
  same_contents = search rules

  pub over_after : IsNoteOver words (act words note i) (notation_after n i)
  over_after = record { directive = same_directive; theta = same_theta; contents = same_contents }

-- ---- the rows of an item

-- digits only make a number larger
pub digits_number-larger : (n : ℕ) (ds : List ℕ) → n ≤ digits_number n ds
digits_number-larger n [] = omega arith
digits_number-larger n (d ∷ ds) = let more = digits_number-larger (10 * n + d) ds in omega (arith, more)

-- an item with another number
abbrev pub with_number : OpenItem → ℕ → OpenItem
with_number p number = record p { number = number }

-- one digit row
digit_row : (row : ℕ) (n : Notation) (p : OpenItem) (d : ℕ) (more : List ℕ) → d < 10 → p.number ≤ 32767
    → table_on row n (Some p) (d ∷ more) ≡ table_on (row + 1) n (Some (with_number p (10 * p.number + d))) more
unfolding table_on
digit_row row n p d more low few = search rules

-- digit rows, one after the other
digit_rows : (row : ℕ) (n : Notation) (p : OpenItem) (ds more : List ℕ) → AreDigits ds
    → digits_number p.number ds ≤ 32767
    → table_on row n (Some p) (ds ++ more)
    ≡ table_on (row + length ds) n (Some (with_number p (digits_number p.number ds))) more
digit_rows row n p [] more are few = search rules
digit_rows row n p (d ∷ ds) more are few =
    let low : p.number ≤ 32767 = let a = digits_number-larger p.number (d ∷ ds) in omega (arith, a, few) in
    let same : row + 1 + length ds ≡ row + length (d ∷ ds) = omega arith in
    digit_row row n p d (ds ++ more) are.0 low
    ∙ digit_rows (row + 1) n (with_number p (10 * p.number + d)) ds more are.1 few
    ∙ ap (λ r. table_on r n (Some (with_number p (digits_number p.number (d ∷ ds)))) more) same

-- the row that ends an item
last_row : (row : ℕ) (n : Notation) (p : OpenItem) (c : ℕ) (more : List ℕ) → is_last_row (row_kind c) ≡ true
    → table_on row n (Some p) (c ∷ more)
    ≡ item_line p.first (row + 1) (placing_over n (whole_item p c))
    ++ table_on (row + 1) (notation_after n (whole_item p c)) None more
unfolding table_on
last_row row n p c more is = rw (is, table_on) refl

-- the rows of an item that has begun
begun_table : (row : ℕ) (n : Notation) (b : Begun) (more : List ℕ) → IsBegun b
    → table_on row n None (b.function ∷ (b.digits ++ (mark_rows b.mark ++ more)))
    ≡ table_on (row + 1 + length b.digits + length (mark_rows b.mark)) n
    (Some (record { first = row; function = b.function; number = digits_number 0 b.digits; mark = b.mark })) more
unfolding table_on
begun_table row n b more is = search (rules, digit_rows)

-- the rows of a whole item
written_table : (row : ℕ) (n : Notation) (w : Written) (more : List ℕ) → IsWritten w
    → table_on row n None (rows_of w ++ more)
    ≡ item_line row (row + length (rows_of w)) (placing_over n (item w))
    ++ table_on (row + length (rows_of w)) (notation_after n (item w)) None more
written_table row n w more is = search (rules, append_assoc, length-append, begun_table, last_row)

-- the rows of a part of an item
part_table : (row : ℕ) (n : Notation) (p : Option Begun) → IsPart p → table_on row n None (part_rows p) ≡ []
unfolding table_on
part_table row n None is = refl
part_table row n (Some b) is =
    let ms = mark_rows b.mark in
    let parts : part_rows (Some b) ≡ b.function ∷ (b.digits ++ (ms ++ [])) =
    ap (λ xs. b.function ∷ (b.digits ++ xs)) (sym (append-nil ms)) in
    ap (table_on row n None) parts ∙ begun_table row n b [] is

-- ---- the rows of items

pub table_is : (words : List ℕ) (row : ℕ) (note : NotationState) (n : Notation) (ws : List Written) (p : Option Begun)
    → IsNoteOver words note n → AreWritten ws → IsPart p
    → table_on row n None (spelled_rows ws ++ part_rows p) ≡ item_table words note row ws
unfolding item_table
table_is words row note n [] p o are part = part_table row n p part
table_is words row note n (w ∷ ws) p o are part =
    let next = row + length (rows_of w) in
    ap (table_on row n None) (append_assoc (rows_of w) (spelled_rows ws) (part_rows p))
    ∙ written_table row n w (spelled_rows ws ++ part_rows p) are.0
    ∙ ap (λ rest. item_line row next (placing_over n (item w)) ++ rest)
    (table_is words next (act words note (item w)) (notation_after n (item w)) ws p (over_after o (item w)) are.1 part)
    ∙ ap (λ q. item_line row next q ++ item_table words (act words note (item w)) next ws) (same_placing o (item w))

pub are_written : (words : List ℕ) (note : NotationState) (ws : List Written) → AreRead words note ws → AreWritten ws
are_written words note [] are = tt
are_written words note (w ∷ ws) are = (are.0, are_written words (act words note (item w)) ws are.2)

-- ---- the loop over rows

-- the number of an item that has begun is in range
abbrev pub IsOpen : Option OpenItem → Type 0
IsOpen None = Unit {0}
IsOpen (Some p) = p.number ≤ 327679

-- the table so far, and that of the rows that are left, are the whole
pub record IsTabled (row : ℕ) (n : Notation) (part : Option OpenItem) (table rows : List ℕ) : Type 0 where
  pub whole : table ++ table_on row n part (drop row rows) ≡ table_on 0 first_notation None rows
  pub in_range : IsOpen part
  pub directive : n.directive ≤ 2 ^ 21 * (row + 1)
  pub theta : n.theta ≤ 2 ^ 21 * (row + 1)

-- ---- the items of a tape

first_over : IsNoteOver cleared_cells.words opening_notation first_notation
first_over = search rules

AreWritten-append : (vs ws : List Written) → AreWritten vs → AreWritten ws → AreWritten (vs ++ ws)
AreWritten-append [] ws a b = b
AreWritten-append (v ∷ vs) ws a b = (a.0, AreWritten-append vs ws a.1 b)

-- what is answered to a well-formed tape
pub entered_told : (z : Size) {codes : List ℕ} {r : Report} {count : ℕ} {reply : Reply}
    → Accepts z cleared_cells.words opening_notation 9 codes r → count ≡ r.rows
    → Gives reply (done (table_on 0 first_notation None (take count codes))) → IsReplied (IsItemsOutcome z) codes reply
entered_told z {codes} {r} {count} {reply} f many tells =
    let ws = f.comes.before in
    let last = f.comes.last in
    let all = ws ++ (last ∷ []) in
    let n : count ≡ length (spelled_rows ws) + length (rows_of last) = many ∙ f.rows_are ∙ f.comes.read_is in
    let head : take count codes ≡ spelled_rows ws ++ rows_of last =
    (λ i. take (n i) (f.comes.rows_are i))
    ∙ take-append-add (spelled_rows ws) (rows_of last ++ f.entry.rest) (length (rows_of last))
    ∙ ap (λ xs. spelled_rows ws ++ xs) (take-append_seam (rows_of last) f.entry.rest) in
    let rows_are : spelled_rows all ++ [] ≡ spelled_rows ws ++ rows_of last =
    append-nil (spelled_rows all) ∙ spelled-append ws (last ∷ [])
    ∙ ap (λ xs. spelled_rows ws ++ xs) (append-nil (rows_of last)) in
    let same : table_on 0 first_notation None (take count codes) ≡ tape_table all =
    ap (table_on 0 first_notation None) (head ∙ sym rows_are)
    ∙ table_is cleared_cells.words 0 opening_notation first_notation all None first_over
    (AreWritten-append ws (last ∷ []) (are_written cleared_cells.words opening_notation ws f.comes.are_read)
    (f.comes.is_written, tt))
    tt in (
      done (tape_table all),
      inl (record { well = f.well; entry = f.entry; comes = f.comes; outcome = refl }),
      subst (λ (out : List ℕ). Gives reply (done out)) same tells,
    )

-- what is answered to a tape with a fault
pub fault_told : (z : Size) {codes : List ℕ} {row : ℕ} {cause : TapeCause} {reply : Reply}
    → IsFault z cleared_cells.words opening_notation codes row cause
    → Gives reply (record {
      out = table_on 0 first_notation None (take row codes);
      note = rule_line row cause;
      status = 3;
    })
    → IsReplied (IsItemsOutcome z) codes reply
fault_told z {codes} {row} {cause} {reply} f tells =
    let s = f.is.stands in
    let ws = s.before in
    let read = spelled_rows ws ++ part_rows s.part in
    let n : row ≡ length read = s.row_is ∙ sym (length-append (spelled_rows ws) (part_rows s.part)) in
    let whole : codes ≡ read ++ s.rest = s.rows_are ∙ sym (append_assoc (spelled_rows ws) (part_rows s.part) s.rest) in
    let head : take row codes ≡ read = (λ i. take (n i) (whole i)) ∙ take-append_seam read s.rest in
    let same : table_on 0 first_notation None (take row codes) ≡ tape_table ws =
    ap (table_on 0 first_notation None) head
    ∙ table_is cleared_cells.words 0 opening_notation first_notation ws s.part first_over
    (are_written cleared_cells.words opening_notation ws s.are_read) s.is_part in
    let outcome : List ℕ → Outcome = λ (out : List ℕ). record { out = out; note = rule_line row cause; status = 3 } in (
      outcome (tape_table ws),
      inr (record { row = row; cause = cause; fault = f; outcome = refl }),
      subst (λ (out : List ℕ). Gives reply (outcome out)) same tells,
    )

-- ---- the turns of the loop

pub tabled_first : {table : List ℕ} {n : Notation} (rows : List ℕ) → table ≡ [] → n ≡ first_notation
    → IsTabled 0 n None table rows
tabled_first rows none first = search rules

-- a row that does not end its item
other_row : (row : ℕ) (n : Notation) (p : OpenItem) (c : ℕ) (more : List ℕ) → is_last_row (row_kind c) ≡ false
    → table_on row n (Some p) (c ∷ more) ≡ table_on (row + 1) n (Some (opened_with (row_kind c) p c)) more
unfolding table_on
other_row row n p c more is = rw (is, table_on) refl

module _ {row c : ℕ} {n : Notation} {table rows : List ℕ} where
  pub tabled_function : IsTabled row n None table rows → row < length rows → c ≡ get_or rows row c
      → IsTabled (row + 1) n (Some (item_at row c)) table rows
  unfolding table_on
  tabled_function t low e = grind (arith, common_steps)

  module _ {p : OpenItem} (t : IsTabled row n (Some p) table rows) (low : row < length rows)
      (e : c ≡ get_or rows row c) where
    pub tabled_longer : is_last_row (row_kind c) ≡ false → {q : OpenItem} → q ≡ opened_with (row_kind c) p c
        → q.number ≤ 327679 → IsTabled (row + 1) n (Some q) table rows
    tabled_longer is {q} same few = search (rules, other_row, next_row)

    pub tabled_last : is_last_row (row_kind c) ≡ true → {m : Notation} {longer : List ℕ} (q : Option (ℕ × ℕ))
        → q ≡ placing_over n (whole_item p c) → longer ≡ table ++ item_line p.first (row + 1) q
        → m ≡ notation_after n (whole_item p c) → IsSetBelow n m → IsTabled (row + 1) m None longer rows
    tabled_last is {m} {longer} q places line next below = search (rules, append_assoc, last_row, next_row)

pub tabled_end : {row : ℕ} {n : Notation} {part : Option OpenItem} {table rows : List ℕ}
    → IsTabled row n part table rows → length rows ≤ row → table ≡ table_on 0 first_notation None rows
unfolding table_on
tabled_end {row} {n} {part} {table} {rows} t past = grind (arith, common_steps)
