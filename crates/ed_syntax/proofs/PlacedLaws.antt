-- A statement that may have a label is read if and only if it is spelled.
use Rattle.ed_syntax.proofs.Kit.{[], ap, Bool, codes, false, length, List, map, nat_le, None, rules}
use Rattle.ed_syntax.proofs.Kit.{Option, option_and_then, option_map, refl, Some, true, ℕ, ℤ, ◌&&◌, ◌++◌}
use Rattle.ed_syntax.proofs.Kit.{◌==◌, ◌∷◌, ◌≡◌, list_all, bytes_eq, and_parts, Decides-eqb, bytes_eq-Decides}
use Rattle.ed_syntax.proofs.Kit.{value, Text, row_of, AreRowsOf, bare_order, long, negative, order, positive}
use Rattle.ed_syntax.proofs.Kit.{SpellsInteger, SpellsOperand, SpellsPlaced, text, word, array, function, is_number}
use Rattle.ed_syntax.proofs.Kit.{length_of, LinePart, modulo, quoted, run, sign, with_sign, Operand}
use Rattle.ed_syntax.proofs.Kit.{Statement}
use Rattle.ed_syntax.proofs.OperandLaws.{operand_is_read, operand_is_spelled}
use Rattle.ed_syntax.proofs.Readings.{ranged, IsSpelled, unread, in_range, IsSpelledFirst, first, map_ranged, by_number}
use Rattle.ed_syntax.proofs.Readings.{made_ranged, made_spelled, if_passed, by_keyword, by_option}
use Rattle.ed_syntax.specs.Reading.Grammar
use Rattle.ed_lines.specs.declared.program.Operand.TheVariants as operands
use Rattle.ed_lines.specs.declared.program.Statement.TheVariants as statements

-- ---- what is spelled is read: an order

-- an operand and the length after it
abbrev with_length : Option (Option Operand × List LinePart) → Option (Option Operand × Bool)
with_length o = option_and_then (λ p. option_map (λ l. (p.0, l)) (Grammar.length_end p.1)) o

-- an operand doesn't begin with a sign
operand_first : (two : Bool) (ps rest : List LinePart) (o : Operand) (fits : Bool) → SpellsOperand two ps o fits
    → Grammar.order_end two (ps ++ rest) ≡ with_length (Grammar.operand two (ps ++ rest))
operand_first two ps rest o fits h = search rules

order_end_is_read : (two : Bool) (ps : List LinePart) (o : Operand) (fits : Bool) (e : ℕ) (l : Bool)
    → SpellsOperand two ps o fits → length_of e ≡ Some l
    → Grammar.order_end two (ps ++ sign e ∷ []) ≡ Some (ranged fits o, l)
order_end_is_read two ps o fits e l h k = search (rules, operand_first, operand_is_read)

-- an order, by its function and its end
abbrev order_of : ℕ → Option Operand × Bool → Option Statement
order_of f p = option_map (λ o. statements.Order f o p.1) p.0

order_is_read : (two : Bool) (b f : ℕ) (parts : List LinePart) (o : Operand) (l fits : Bool) → function b ≡ Some f
    → Grammar.order_end two parts ≡ Some (ranged fits o, l)
    → Grammar.order two b parts ≡ Some (ranged fits (statements.Order f o l))
order_is_read two b f parts o l fits h k = search (rules, map_ranged)

-- ---- what is spelled is read: numbers and strings

pub number_is_read : (most : ℕ) (n : Text) → is_number n ≡ true
    → Grammar.number_up_to most n ≡ Some (ranged (nat_le (value n) most) (value n))
number_is_read most n e = rw e refl

integer_is_read : (least most : ℕ) (ps : List LinePart) (z : ℤ) (fits : Bool) → SpellsInteger least most ps z fits
    → Grammar.integer least most ps ≡ Some (ranged fits z)
integer_is_read least most ps z fits h = search (rules, made_ranged, number_is_read)

-- a line has no room for longer strings
abbrev pub is_short : LinePart → Bool
is_short (quoted q) = nat_le (length q) 120
is_short part = true

-- what bytes spell, if each spells something
all_spell : (f : ℕ → Option ℕ) (q : Text) (rows : List ℕ) → map f q ≡ map (λ r. Some r) rows
    → (list_all (λ b. Grammar.spells (f b)) q ≡ true) × (map (λ b. Grammar.row (f b)) q ≡ rows)
all_spell f [] [] e = (refl, refl)
all_spell f [] (r ∷ rows) e = absurd (cc)
all_spell f (b ∷ q) [] e = absurd (cc)
all_spell f (b ∷ q) (r ∷ rows) e =
    let first : f b ≡ Some r = cc in
    let others : map f q ≡ map (λ r. Some r) rows = cc in
    let more = all_spell f q rows others in
    (rw first more.0, rw first (ap (λ (t : List ℕ). r ∷ t) more.1))

pub string_is_read : (q : Text) (rows : List ℕ) → AreRowsOf q rows → nat_le (length q) 120 ≡ true
    → Grammar.string_rows q ≡ Some rows
string_is_read q rows h few =
    let some = h.some in
    let all = all_spell row_of q rows h.each in
    let each = all.0 in
    simp (some, few, each) (ap (λ (t : List ℕ). Some t) all.1)

pub placed_is_read : (two : Bool) (ps : List LinePart) (s : Statement) (fits : Bool) → SpellsPlaced two ps s fits
    → list_all is_short ps ≡ true → Grammar.placed_statement two ps ≡ Some (ranged fits s)
placed_is_read two _ _ _ (order b f e ps o l fits hf ho hl) few =
    order_is_read two b f (ps ++ sign e ∷ []) o l fits hf (order_end_is_read two ps o fits e l ho hl)
placed_is_read two _ _ _ (bare_order b f e l hf hl) few =
    order_is_read two b f (sign e ∷ []) _ l true hf (ap (option_map (λ l. (Some (operands.Number 0), l))) hl)
placed_is_read two _ _ _ (word ps z fits h) few =
    made_ranged (λ z. statements.Number (modulo 17 z)) _ fits z (integer_is_read _ _ ps z fits h)
placed_is_read two _ _ _ (long ps z fits h v) few =
    rw v (made_ranged (λ z. statements.Long (modulo 35 z)) _ fits z (integer_is_read _ _ ps z fits h))
placed_is_read two _ _ _ (text q rows h) few =
    ap (option_map (λ rows. Some (statements.Text (array rows)))) (string_is_read q rows h (and_parts _ true few).0)

-- ---- what is read is spelled: an order

-- the length after an operand
by_length : {S : List LinePart → Statement → Bool → Type 0} {ps : List LinePart} (f : ℕ) (x : Option Operand)
    (o : Option Bool) → ((l : Bool) → o ≡ Some l → IsSpelled S ps (Some (order_of f (x, l))))
    → IsSpelled S ps (option_map (order_of f) (option_map (λ l. (x, l)) o))
by_length f x o g = search (rules, unread)

operand_order : (two : Bool) (b f : ℕ) (parts : List LinePart) (o : Option (Option Operand × List LinePart))
    → function b ≡ Some f → IsSpelledFirst (SpellsOperand two) parts o
    → IsSpelled (SpellsPlaced two) (sign b ∷ parts) (option_map (order_of f) (with_length o))
operand_order two b f parts _ h (first ps (sign e ∷ []) x whole s) = by_length f x (length_of e) (λ l k.
    rw whole (made_spelled (λ a. statements.Order f a l) s (λ a fits t. order b f e ps a l fits h t k)))
operand_order two b f parts _ h s = unread

order_end_spelled : (two : Bool) (b f : ℕ) (parts : List LinePart) → function b ≡ Some f
    → IsSpelled (SpellsPlaced two) (sign b ∷ parts) (option_map (order_of f) (Grammar.order_end two parts))
order_end_spelled two b f (sign e ∷ []) h =
    by_length f (Some (operands.Number 0)) (length_of e) (λ l k. in_range _ (bare_order b f e l h k))
order_end_spelled two b f (run r ∷ parts) h = operand_order two b f _ _ h (operand_is_spelled two (run r ∷ parts))
order_end_spelled two b f parts h = unread

-- ---- what is read is spelled: numbers and strings

integer_spelled : (least most : ℕ) (ps : List LinePart)
    → IsSpelled (SpellsInteger least most) ps (Grammar.integer least most ps)
integer_spelled least most (run n ∷ []) = by_number (with_sign false) most n (positive n)
integer_spelled least most (sign s ∷ run n ∷ []) = if_passed (s == 45) (λ e.
    rw ((Decides-eqb s 45).0 e) (by_number (with_sign true) least n (negative n)))
integer_spelled least most ps = unread

rows_are : (f : ℕ → Option ℕ) (q : Text) → list_all (λ b. Grammar.spells (f b)) q ≡ true
    → map f q ≡ map (λ r. Some r) (map (λ b. Grammar.row (f b)) q)
rows_are f [] e = refl
rows_are f (b ∷ q) e =
    let p = and_parts _ _ e in by_row (f b) refl p.0 (rows_are f q p.1)
  where
    by_row : (o : Option ℕ) → f b ≡ o → Grammar.spells o ≡ true
        → map f q ≡ map (λ r. Some r) (map (λ b. Grammar.row (f b)) q)
        → map f (b ∷ q) ≡ map (λ r. Some r) (map (λ b. Grammar.row (f b)) (b ∷ q))
    by_row None e g h = absurd (cc)
    by_row (Some r) e g h = rw e (ap (λ (t : List (Option ℕ)). Some r ∷ t) h)

-- a string alone, after a keyword
pub string_spelled : {S : List LinePart → Statement → Bool → Type 0} {w : Text} (f : List ℕ → Statement)
    (ps : List LinePart)
    → ((q : Text) (rows : List ℕ) → AreRowsOf q rows → S (run w ∷ quoted q ∷ []) (f rows) true)
    → IsSpelled S (run w ∷ ps) (option_map (λ rows. Some (f rows)) (Grammar.string ps))
string_spelled f ps step = search (rules, in_range, rows_are, unread)

pub placed_is_spelled : (two : Bool) (ps : List LinePart)
    → IsSpelled (SpellsPlaced two) ps (Grammar.placed_statement two ps)
placed_is_spelled two (sign b ∷ ps) = by_option _ (function b) (λ f e. order_end_spelled two b f ps e)
placed_is_spelled two (run w ∷ ps) =
    by_keyword w (codes "word") (made_spelled (λ z. statements.Number (modulo 17 z)) (integer_spelled 65536 131071 ps)
    (λ z fits s. word ps z fits s))
    (by_keyword w (codes "text") (string_spelled (λ rows. statements.Text (array rows)) ps text)
    (if_passed (two && bytes_eq w (codes "long")) (λ e.
    let p = and_parts two _ e in
    rw ((bytes_eq-Decides w _).0 p.1) (made_spelled (λ z. statements.Long (modulo 35 z))
    (integer_spelled 17179869184 34359738367 ps) (λ z fits s. long ps z fits s p.0)))))
placed_is_spelled two ps = unread
