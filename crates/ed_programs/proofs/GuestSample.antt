-- A guest of three lines, for which everything that the law requires is shown: it prints A and stops.
use Rattle.ed_programs.proofs.Kit.{A_F, Z_F, Size, Full, Small, no_step, Line, Label, Fetch, checked_codes}
use Rattle.ed_programs.proofs.Kit.{checked_orders, IsAllowed, placed, word_at, [], ap, arith, codes, false, length}
use Rattle.ed_programs.proofs.Kit.{List, lit<, lit≤, None, Ok, pos, refl, rules, Some, subst, suc, sym, take, true}
use Rattle.ed_programs.proofs.Kit.{unwrap_or, zero, ℕ, ◌++◌, ◌+◌, ◌-◌, ◌<◌, ◌∙◌, ◌∷◌, ◌≡◌, ◌≤◌, Text}
use Rattle.ed_programs.proofs.Kit.{paper, short_at, step, State, progress, state_after, placed_at, settings, line_of}
use Rattle.ed_programs.proofs.Kit.{program_of, parameter_store, fault, read_is_accepted, text_of_lines, is_obeyed}
use Rattle.ed_programs.proofs.Kit.{stops_of, EntersChecker, entry_guest, stopped_orders, StopsAtZ, SourceRuns, Marked}
use Rattle.ed_checker.proofs.Kit.{function_of, kind_of_function, next_word, obey_word, codes_of, orders_by}
use Rattle.ed_orders.specs.declared.kind.Kind.TheVariants.{O}
use Rattle.ed_machine.specs.declared.turn.Turn.TheVariants.{Printed, Stopped}
use Rattle.ed_machine.proofs.Kit.Leads.{first_order}
use Rattle.ed_programs.specs.Guests.{SampleIsChecked}
use Rattle.ed_programs.proofs.GuestRuns.{each_guest}
use Rattle.ed_programs.proofs.GuestTexts.{enters_at, last_texts, use_line, use_text}
use Rattle.ed_programs.proofs.SourceLines.{lines_said, mark, source_read, source_said}
use Rattle.std.proofs.lemmas.Grind.{common_steps}

-- ---- the source

abbrev texts : List Text
texts = codes "segment main" ∷ codes "O letter F" ∷ codes "Z F" ∷ codes "letter: A F" ∷ last_texts

use_says : line_of false 5 use_text ≡ Ok (record { label = None; statement = (use_line 5).statement })
unfolding settings
use_says = refl

abbrev marks : List (Marked false)
marks =
    mark 5 use_text None (Fetch (codes "check") (codes "c") (record {
      items = record { letter = 21; operand = Label (codes "main") (pos 0) } ∷ [];
    })) use_says ∷ []

abbrev lines : List Line
lines = lines_said false 1 texts marks

read : program_of (text_of_lines texts) ≡ Ok lines
read = source_read false texts refl (source_said false texts marks refl refl) (lit≤ tt)

faultless : (z : Size) → fault z lines ≡ None
faultless Small = refl
faultless Full = refl

abbrev enters : EntersChecker lines
enters = enters_at 5 (take 4 lines) lines refl

module _ (z : Size) where
  -- ---- its two orders

  abbrev g : State
  g = entry_guest z lines (Label (codes "main") (pos 0))

  word : (a : ℕ) → 44 ≤ a → a < 1024 → short_at g.store a ≡ unwrap_or (placed_at (placed lines) a) 0
  word = word_at z lines refl

  -- O 58 F
  first_word : next_word g ≡ 36980
  unfolding parameter_store
  first_word = word 56 (lit≤ tt) (lit< tt)

  letter : short_at g.store 58 ≡ A_F
  unfolding parameter_store
  letter = word 58 (lit≤ tt) (lit< tt)

  first_turn : (step g).turn ≡ Printed 28
  unfolding step
  first_turn = search rules

  abbrev second : State
  second = (obey_word (Some O) 36980 g).state

  second_is : state_after 1 g ≡ second
  second_is = first_order g 36980 first_word

  -- Z F
  second_word : next_word second ≡ Z_F
  unfolding parameter_store
  second_word = word 57 (lit≤ tt) (lit< tt)

  second_turn : (step second).turn ≡ Stopped
  unfolding step
  second_turn = ap (λ w. (obey_word (kind_of_function (function_of w)) w second).turn) second_word

  -- ---- what the law requires of it

  first_allowed : IsAllowed 60 g
  first_allowed = search (rules, lit<)

  second_allowed : IsAllowed 60 second
  second_allowed = grind (arith, common_steps)

  allowed : (j : ℕ) → j < 1 → IsAllowed 60 (state_after j g)
  allowed zero l = subst (IsAllowed 60) (no_step g) first_allowed
  allowed (suc j) l = absurd (omega arith)

  obeyed : (j : ℕ) → j < 1 → is_obeyed (step (state_after j g)).turn ≡ true
  obeyed zero l = ap (λ (x : State). is_obeyed (step x).turn) (sym (no_step g)) ∙ ap is_obeyed first_turn
  obeyed (suc j) l = absurd (omega arith)

  no_stops : (progress 1 g).stops ≡ 0
  unfolding progress
  no_stops = ap (λ t. 0 + stops_of t) first_turn

  after_first : (step (state_after 1 g)).turn ≡ Stopped
  after_first = ap (λ (x : State). (step x).turn) second_is ∙ second_turn

  stops : StopsAtZ 60 1 g
  stops = search (rules, allowed, obeyed, no_stops, after_first, second_is, second_allowed)

  -- ---- what is printed, and in how many orders

  next : next_word (state_after 1 g) ≡ Z_F
  next = ap next_word second_is ∙ second_word

  codes_are : checked_codes g 2 ≡ 9 ∷ 28 ∷ 13 ∷ []
  unfolding checked_codes progress
  codes_are = λ i.
      ([] ++ (function_of (first_word i) ∷ codes_of (first_turn i)))
      ++ (function_of (next i) ∷ codes_of (after_first i))

  orders_are : stopped_orders g 2 ≡ 54
  unfolding checked_orders progress
  orders_are = λ i.
      0 + orders_by (function_of (first_word i)) g.acc
      + orders_by (function_of (next i)) (state_after 1 g).acc - 16

pub sample_is_checked : SampleIsChecked
sample_is_checked s =
    let z = s.size in
    let source = text_of_lines texts in
    let accepted = read_is_accepted z source lines read (faultless z) in
    let few = subst (λ (cs : List ℕ). length cs ≤ 1000000) (sym (codes_are z)) (lit≤ tt) in
    let runs = (each_guest s source lines enters accepted).runs 1 (stops z) few in
    subst (λ k. SourceRuns s source k 101 (codes "OAZ")) (orders_are z)
    (subst (λ (cs : List ℕ). SourceRuns s source (stopped_orders (g z) 2) 101 (paper cs)) (codes_are z) runs)
