-- The source of `examples/hello.edsac` for any text: its lines, its path, and what it prints.
use Rattle.ed_programs.proofs.Kit.{before_order, G_F, Z_F, Size, Full, Small, Z, Settings, Line, Statement, ExtentList}
use Rattle.ed_programs.proofs.Kit.{past, even_from, extent, fault_from, along, IsIn, then, to_stop, newline_line}
use Rattle.ed_programs.proofs.Kit.{followed, all_words, frame_at, moment_at, [], ap, arith, codes, decimal, false}
use Rattle.ed_programs.proofs.Kit.{get_or, length, length-append, List, lit<, lit≤, map, nat_lt, None, Option, pos}
use Rattle.ed_programs.proofs.Kit.{refl, reverse, rules, Some, subst, take, true, ℕ, ◌*◌, ◌++◌, ◌+◌, ◌-◌, ◌<◌, ◌∙◌, ◌∷◌}
use Rattle.ed_programs.proofs.Kit.{◌≡◌, ◌≤◌, list_all, le-ltb, leb-true, length-map, Text, locations_least, row_of}
use Rattle.ed_programs.proofs.Kit.{paper, Frame, Moment, state, Path, run, sign, row, first_counter, fault}
use Rattle.ed_programs.proofs.Kit.{linked_words, symbols_of, counter, newline, HasRoutine, ReachesStop, entry_state}
use Rattle.ed_programs.proofs.Kit.{said, hello_text, is_capital, of_letters, SourceRuns, Marked, to, printing}
use Rattle.ed_programs.proofs.Kit.{Path-counted, common_steps}
use Rattle.ed_link.proofs.Kit.{resolution, earlier_fault, missing}
use Rattle.ed_link.proofs.Extents.{one_by_one}
use Rattle.ed_sources.proofs.Blocks.{order_at}
use Rattle.ed_sources.proofs.Said.{order, stop}
use Rattle.ed_programs.specs.Hello.{EachTextIsPrinted, hello_orders}
use Rattle.ed_programs.specs.declared.hello.TheConstants.{HELLO}
use Rattle.ed_programs.proofs.Capitals.{are_rows, letters_shown}
use Rattle.ed_programs.proofs.ProgramEntry.{stops_by}
use Rattle.ed_programs.proofs.RowTexts.{is_row_byte, rows_spelled, text_rows}
use Rattle.ed_programs.proofs.SourceRuns.{read_runs}
use Rattle.ed_programs.proofs.TextLines.{IsAround, all_plain, number_mark, text_mark}
use Rattle.ed_programs.proofs.TextPrograms.{Spells, before_text, last_lines, newline_after, text_sound, text_stands}
use Rattle.ed_lines.specs.declared.program.Operand.TheVariants as operands
use Rattle.ed_lines.specs.declared.program.Statement.TheVariants as statements
use Rattle.ed_programs.proofs.Orders.{A, A_low, G_jumps, G_stays, O_high, S, T, U, obeys}

-- the pieces of the source, and between them the number of rows and the bytes that spell them
abbrev pub hello_pieces : List Text
hello_pieces = map (λ piece. piece.now) HELLO

abbrev hello_data : Text → List Text
hello_data q = decimal (length q) ∷ q ∷ []

-- ---- its path

-- its words: the jump to `newline`, the order after the last one that prints, the one that does, and a spare cell
abbrev cells : ℕ → ℕ → ℕ → ℕ → List ℕ
cells jump behind order scrap =
    to 5 12 ∷ order ∷ to 28 1 ∷ 114692 ∷ to 7 1 ∷ to 12 11 ∷ to 27 0 ∷ to 5 12 ∷ to 28 8 ∷ jump ∷ Z_F ∷ behind
    ∷ scrap ∷ []

module _ (z : Size) (around : Moment) (all : length around.words ≡ 1024) (second : get_or around.words 2 0 ≡ 2)
    (w e : ℕ) (room : e ≤ 500) where
  abbrev f : Frame 13 0
  f = frame_at 13 z (lit≤ tt)

  abbrev at : ℕ → ℕ → ℕ → ℕ → Option ℕ → Moment
  at i v order scrap last =
      record (before_order around (56 + i) v (cells (G_F + 2 * w) (printing e) order scrap)) { last = last }

  -- the loop: a code is printed, and the order that prints it gets the next address; it ends when the order is the one
  -- after the last that prints
  loop : (c : ℕ) (cs : List ℕ) (q left scrap : ℕ) (last : Option ℕ) → Spells around.words q (c ∷ cs)
      → q + length (c ∷ cs) ≡ e → 69 ≤ q → left < 131072
      → (x : ℕ × Option ℕ) × Path f (length (c ∷ cs) * 7) (at 0 left (printing q) scrap last) (c ∷ cs)
      (at 7 0 (printing e) x.0 x.1)
  loop c [] q left scrap last o long from small =
      let size = locations_least z in let here = o.0 in let code = o.1 in (
        (left, Some c),
        obeys 0 left (T 12 ∷ O_high q c ∷ A 1 (printing q) ∷ A_low 2 (printing e) ∷ U 1 ∷ S 11 0 ∷ G_stays 0 ∷ []) refl
            (omega arith),
      )
  loop c (d ∷ ds) q left scrap last o long from small =
      let less : ℕ = 131072 - 2 * length (d ∷ ds) in
      let size = locations_least z in let here = o.0 in let code = o.1 in
      let rest = loop d ds (q + 1) less left (Some c) o.2 (omega arith) (omega arith) (omega arith) in (
        rest.0,
        Path-counted (followed (obeys 0 left (T 12 ∷ O_high q c ∷ A 1 (printing q) ∷ A_low 2 (printing (q + 1)) ∷ U 1
            ∷ S 11 less ∷ G_jumps 0 ∷ []) refl (omega arith)) rest.1) (omega arith),
      )

  stops : (has : HasRoutine f around.words newline w []) (c : ℕ) (cs : List ℕ) → Spells around.words 69 (c ∷ cs)
      → 69 + length (c ∷ cs) ≡ e → (done : ℕ)
      → ReachesStop (length (c ∷ cs) * 7 + 8) (state f (at 0 0 (printing 69) 0 None) done) ((c ∷ cs) ++ 18 ∷ 24 ∷ []) 67
  stops has c cs o long =
      let x = loop c cs 69 0 0 None o long (lit≤ tt) (lit< tt) in
      let here : IsIn f (at 8 0 (printing e) 0 x.0.1) = record { above = lit≤ tt; all = all; own = refl } in
      to_stop (then (along x.1)
      (then (along (obeys 7 0 (T 12 ∷ []) refl (omega arith))) (newline_line here 8 has (lit≤ tt) refl refl refl)))
      (Z 10 Z_F refl refl)

-- ---- its lines

abbrev behind : ℕ → Statement
behind n = statements.Order 9 (operands.Label (codes "letters") (pos n)) false

-- all of them, by the rows of the text; the same as are computed, but written out for what is proved of them
abbrev hello_lines : List ℕ → List Line
hello_lines rows =
    record { number = 1; label = None; statement = None }
    ∷ record { number = 2; label = None; statement = None }
    ∷ record { number = 3; label = None; statement = None }
    ∷ said 4 None (statements.Segment (codes "main") None)
    ∷ said 5 (Some (codes "_next")) (order 5 (codes "_scrap"))
    ∷ said 6 (Some (codes "_print")) (order 9 (codes "letters"))
    ∷ said 7 None (order 28 (codes "_print"))
    ∷ said 8 None (statements.Order 28 (operands.Number 2) false)
    ∷ said 9 None (order 7 (codes "_print"))
    ∷ said 10 None (order 12 (codes "_last"))
    ∷ said 11 None (order 27 (codes "_next"))
    ∷ said 12 None (order 5 (codes "_scrap"))
    ∷ said 13 (Some (codes "_call")) (order 28 (codes "_call"))
    ∷ said 14 None (order 27 (codes "n"))
    ∷ said 15 None stop
    ∷ said 16 (Some (codes "_last")) (behind (length rows))
    ∷ said 17 (Some (codes "_scrap")) (statements.Order 0 (operands.Number 0) false)
    ∷ said 18 None (statements.Segment (codes "text") None)
    ∷ last_lines 19 (codes "letters") rows (codes "n") (codes "main")

number_line : (n m : ℕ) → m ≡ n → n ≤ 1023
    → IsAround true 16 (codes "_last: O letters+") (codes " F  ; the order behind the last letter")
    (run (codes "_last") ∷ sign 58 ∷ sign 79 ∷ run (codes "letters") ∷ sign 43 ∷ []) (sign 70 ∷ []) n
    (Some (codes "_last")) (behind m)
number_line n m same few = grind (arith, common_steps)

-- where they stand, and that they have no fault
module _ (rows : List ℕ) (few : length rows ≤ 41) where
  abbrev lines : List Line
  lines = hello_lines rows

  abbrev w : ℕ
  w = even_from (69 + length rows)

  named : (resolution lines).fault ≡ None
  named = search (rules, le-ltb)

  -- the extents of the lines before the text
  abbrev extents : ExtentList
  extents = extent 56 56 ∷ extent 56 56 ∷ extent 56 56 ∷ extent 56 56 ∷ one_by_one 13 56 ++ extent 69 69 ∷ []

  placed_well : (z : Size) → fault_from z (symbols_of lines) true (past extents) (counter 69 69 2)
      (last_lines 19 (codes "letters") rows (codes "n") (codes "main")) ≡ None
      → fault_from z (symbols_of lines) true (past []) first_counter lines ≡ None
  placed_well Small h = h
  placed_well Full h = h

  faultless : (z : Size) → fault z lines ≡ None
  faultless z =
      (λ i. earlier_fault (named i) (earlier_fault (fault_from z (symbols_of lines) true (past []) first_counter lines)
      (missing true (length lines))))
      ∙ ap (λ f. earlier_fault None (earlier_fault f None)) (placed_well z
      (text_sound z (symbols_of lines) extents 69 69 2 19 (codes "letters") (codes "n") (codes "main") rows (lit≤ tt)
      (omega arith) refl refl))

ends : (c : ℕ) (cs : List ℕ) → length (c ∷ cs) ≤ 41 → list_all (λ c. nat_lt c 32) (c ∷ cs) ≡ true → (z : Size)
    → ReachesStop (length (c ∷ cs) * 7 + 8) (entry_state z (hello_lines (c ∷ cs))) ((c ∷ cs) ++ 18 ∷ 24 ∷ []) 67
ends c cs few small z =
    let rows : List ℕ = c ∷ cs in
    let lines : List Line = hello_lines rows in
    let w : ℕ = even_from (69 + length rows) in
    let front : List (ℕ × ℕ) = take 13 (linked_words lines) in
    let jump : 4096 * 27 + 2 * (w + 0) ≡ G_F + 2 * w = omega arith in
    let order = order_at 27 (w + 0) (lit< tt) (omega arith) ∙ jump in
    let last = order_at 9 (69 + length rows) (lit< tt) (omega arith) in
    stops_by z lines 13 (lit≤ tt) (reverse front)
    (λ j l. before_text z lines 69 rows (lit≤ tt) (omega arith) front refl refl (56 + j) (omega arith) (omega arith))
    (cells (G_F + 2 * w) (printing (69 + length rows)) (printing 69) 0)
    (λ i. cells (order i) (last i) (printing 69) 0) refl [] refl
    (stops z (moment_at (entry_state z lines)) (all_words z lines) refl w (69 + length rows) (omega arith)
    (newline_after z lines 69 rows (lit≤ tt) (omega arith) front refl refl (lit≤ tt) (lit≤ tt)) c cs
    (text_stands z lines 69 rows (lit≤ tt) (omega arith) front refl refl small) refl (entry_state z lines).orders)

-- 1 to 41 bytes that spell rows
row_text_runs : (s : Settings) (q : Text) → 1 ≤ length q → length q ≤ 41 → list_all is_row_byte q ≡ true
    → SourceRuns s (hello_text q) (7 * length q + 9) 67 (paper (text_rows q ++ 18 ∷ 24 ∷ []))
row_text_runs s [] some most spelled = absurd (omega arith)
row_text_runs s (b ∷ r) some most spelled =
    let q : Text = b ∷ r in
    let rows : List ℕ = text_rows q in
    let long : length rows ≡ length q = length-map q (λ b. row (row_of b)) in
    let few : length rows ≤ 41 = omega (arith, long) in
    let marks : List (Marked true) =
    number_mark (number_line (length q) (length rows) long (omega arith)) (omega arith)
    ∷ text_mark 19 (codes "letters") q (lit≤ tt) refl some (omega arith) spelled ∷ [] in
    let e = length-append rows (18 ∷ 24 ∷ []) in
    read_runs s true hello_pieces (hello_data q) marks refl (faultless rows few s.size)
    (ends (row (row_of b)) (text_rows r) few (all_plain q spelled).codes s.size) (omega (arith, e, few))
    (omega (arith, long)) refl

pub each_text : EachTextIsPrinted
each_text s q rows are few =
    let spelled = rows_spelled are in
    subst (λ (rs : List ℕ). SourceRuns s (hello_text q) (7 * length q + 9) 67 (paper (rs ++ 18 ∷ 24 ∷ []))) spelled.1
    (row_text_runs s q (leb-true 1 (length q) are.some) few spelled.0)

-- 1 to 40 capital letters are printed as they are, on a line
pub each_name : (letters : Text) → 1 ≤ length letters → length letters ≤ 40 → list_all is_capital letters ≡ true
    → (s : Settings)
    → SourceRuns s (hello_text (of_letters letters)) (hello_orders letters) 67 (letters ++ 13 ∷ 10 ∷ [])
each_name letters some few capital s =
    let count : 7 * length (of_letters letters) + 9 ≡ 7 * length letters + 16 = omega arith in
    subst (λ k. SourceRuns s (hello_text (of_letters letters)) k 67 (letters ++ 13 ∷ 10 ∷ [])) count
    (subst (λ (t : Text). SourceRuns s (hello_text (of_letters letters)) (7 * length (of_letters letters) + 9) 67 t)
    (letters_shown letters capital)
    (row_text_runs s (of_letters letters) (omega arith) (omega arith) (are_rows letters capital)))
