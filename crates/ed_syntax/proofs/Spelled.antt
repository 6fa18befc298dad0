-- Each form's text spells it.
use Rattle.ed_syntax.proofs.Kit.{if◌then◌else◌}
use Rattle.ed_syntax.proofs.Kit.{[], ap, arith, Bool, codes, false, length, List, map, nat_le, nat_lt, negsuc, None}
use Rattle.ed_syntax.proofs.Kit.{not, Option, pos, refl, Some, suc, true, unsigned_abs, zero, ℕ, ℤ, ◌&&◌, ◌++◌, rules}
use Rattle.ed_syntax.proofs.Kit.{◌<◌, ◌==◌, ◌^◌, ◌||◌, ◌∙◌, ◌∷◌, ◌≡◌, ◌≤◌, decimal, list_all, and_from, and_parts}
use Rattle.ed_syntax.proofs.Kit.{le-leb, le-ltb, leb-true, ltb-true, nat_tests, append-nil, length-map}
use Rattle.ed_syntax.proofs.Kit.{Text, letters, row_of, AreRowsOf, bare_order, data_rows, difference, empty, enter}
use Rattle.ed_syntax.proofs.Kit.{fetch, fetch_with, has_few_settings, is_sign, label, labelled, last, long, minus}
use Rattle.ed_syntax.proofs.Kit.{more, name, number, order, placed, plus, positive, segment, segment_at, setting}
use Rattle.ed_syntax.proofs.Kit.{SpellsForm, SpellsInteger, SpellsOperand, SpellsPlaced, SpellsSetting, SpellsSettings}
use Rattle.ed_syntax.proofs.Kit.{SpellsStatement, statement, sum, text, word, is_name}
use Rattle.ed_syntax.proofs.Kit.{is_place_name, array, function, has_quote, is_line_byte, length_of}
use Rattle.ed_syntax.proofs.Kit.{LinePart, modulo, quoted, run, setting_letter, sign, are_rows, is_base}
use Rattle.ed_syntax.proofs.Kit.{is_form, is_operand, is_setting, is_statement, may_have_label, form_text, row_letter}
use Rattle.ed_syntax.proofs.Kit.{settings_after, Operand, Setting, Statement}
use Rattle.std.proofs.Common.{slice_index}
use Rattle.std.proofs.lemmas.Bool.{not-true}
use Rattle.ed_codes.proofs.Below.{from_below}
use Rattle.ed_codes.proofs.Spellings.{letter_back}
use Rattle.ed_syntax.specs.Forms.{EachFormIsSpelled}
use Rattle.ed_syntax.specs.Written.{operand_text, setting_text, statement_text}
use Rattle.ed_syntax.proofs.Fronts.{IsFront, no_front, blank_front, sign_front, quoted_front, run_front, one_run_front}
use Rattle.ed_syntax.proofs.Fronts.{joined_front, front_parts}
use Rattle.ed_syntax.proofs.Numerals.{IsNumeral, numeral_of, numeral_part}
use Rattle.ed_syntax.proofs.RunTests.{is_run}
use Rattle.ed_lines.specs.declared.program.Operand.TheVariants as operands
use Rattle.ed_lines.specs.declared.program.Statement.TheVariants as statements
use Rattle.ed_syntax.specs.Written

-- the parts of this text spell it
pub record IsSpelledBy {A : Type 0} (S : List LinePart → A → Bool → Type 0) (text : Text) (a : A) : Type 0 where
  pub ps : List LinePart
  pub spelled : S ps a true
  pub front : IsFront text ps

spelled_by : {A : Type 0} {S : List LinePart → A → Bool → Type 0} {text : Text} {a : A} (ps : List LinePart)
    → S ps a true → IsFront text ps → IsSpelledBy S text a
spelled_by ps s f = record { ps = ps; spelled = s; front = f }

-- what is spelled, by its kind
spells : {A : Type 0} (S : List LinePart → A → Bool → Type 0) {ps : List LinePart} {a : A} {fits : Bool} → S ps a fits
    → S ps a fits
spells S s = s

-- ---- names and letters

name_part : (a : Text) → is_name a ≡ true → is_run a ≡ true
name_part a e = search (rules, and_from)

place_name_part : (two : Bool) (a : Text) → is_place_name two a ≡ true → is_run a ≡ true
place_name_part two a e = search (rules, and_from, name_part)

-- whether this is the code
abbrev is_code : ℕ → Option ℕ → Bool
is_code k None = false
is_code k (Some r) = r == k

code_is : (k : ℕ) (o : Option ℕ) → is_code k o ≡ true → o ≡ Some k
code_is k o e = search rules

letter_is_plain : (k : ℕ) → k < 32 → is_line_byte (row_letter k) ≡ true
letter_is_plain k lt = from_below (λ j. is_line_byte (slice_index letters j)) 32 k refl lt

letter_front : (k : ℕ) (after : Text) (ps : List LinePart) → k < 32 → IsFront after ps
    → IsFront (row_letter k ∷ after) (sign (row_letter k) ∷ ps)
letter_front k after ps lt f =
    sign_front _ after ps (from_below (λ j. is_sign (slice_index letters j)) 32 k refl lt) (letter_is_plain k lt) f

function_back : (k : ℕ) → k < 32 → function (row_letter k) ≡ Some k
function_back k lt = code_is k _ (from_below (λ j. is_code j (function (slice_index letters j))) 32 k refl lt)

setting_back : (k : ℕ) → 21 ≤ k → k ≤ 26 → setting_letter (row_letter k) ≡ Some k
setting_back k low high =
    let test = from_below (λ j. nat_lt j 21 || is_code j (setting_letter (slice_index letters j))) 27 k refl
    (omega arith) in
    code_is k _ (rw (le-ltb k 21 low) at test)

-- ---- operands and settings

-- a name at the end of a text
name_front : (a : Text) → is_name a ≡ true → IsFront a (run a ∷ [])
name_front a e = one_run_front a (name_part a e)

numeral_front : (n : ℕ) (d : Text) → IsNumeral n d → IsFront d (run d ∷ [])
numeral_front n d h = one_run_front d (numeral_part n d h)

-- a name, a plus or a minus, and a run
two_front : (two minus : Bool) (a b : Text) → is_place_name two a ≡ true → IsFront b (run b ∷ [])
    → IsFront (a ++ (if minus then 45 else 43) ∷ b) (run a ∷ sign (if minus then 45 else 43) ∷ run b ∷ [])
two_front two false a b e f =
    run_front a (43 ∷ b) _ (place_name_part two a e) (λ rest g. refl) (sign_front 43 b _ refl refl f)
two_front two true a b e f =
    run_front a (45 ∷ b) _ (place_name_part two a e) (λ rest g. refl) (sign_front 45 b _ refl refl f)

label_spelled : (two : Bool) (a : Text) (z : ℤ) → is_place_name two a ≡ true → nat_le (unsigned_abs z) 1023 ≡ true
    → IsSpelledBy (SpellsOperand two) (operand_text (operands.Label a z)) (operands.Label a z)
label_spelled two a (pos zero) e f =
    spelled_by _ (name a e) (run_front a [] [] (place_name_part two a e) (λ rest g. g) no_front)
label_spelled two a (pos (suc n)) e f =
    let h = numeral_of (suc n) (grind (arith, nat_tests)) in
    spelled_by _ (rw (h.value_is, f) at (spells (SpellsOperand two) (plus a (decimal (suc n)) e h.number)))
    (two_front two false a _ e (numeral_front (suc n) _ h))
label_spelled two a (negsuc n) e f =
    let h = numeral_of (suc n) (grind (arith, nat_tests)) in
    spelled_by _ (rw (h.value_is, f) at (spells (SpellsOperand two) (minus a (decimal (suc n)) e h.number)))
    (two_front two true a _ e (numeral_front (suc n) _ h))

two_spelled : (two : Bool) (a b : Text) (m : Bool) → is_place_name two a ≡ true → is_place_name two b ≡ true
    → two ≡ true → IsSpelledBy (SpellsOperand two) (operand_text (operands.Two a b m)) (operands.Two a b m)
two_spelled two a b false e f g =
    spelled_by _ (sum a b e f g) (two_front two false a b e (one_run_front b (place_name_part two b f)))
two_spelled two a b true e f g =
    spelled_by _ (difference a b e f g) (two_front two true a b e (one_run_front b (place_name_part two b f)))

operand_spelled : (two : Bool) (o : Operand) → is_operand two o ≡ true
    → IsSpelledBy (SpellsOperand two) (operand_text o) o
operand_spelled two (operands.Number n) e =
    let h = numeral_of n (grind (arith, nat_tests)) in
    spelled_by _ (rw (h.value_is, e) at (spells (SpellsOperand two) (number (decimal n) h.number)))
    (numeral_front n _ h)
operand_spelled two (operands.Label a z) e = let p = and_parts _ _ e in label_spelled two a z p.0 p.1
operand_spelled two (operands.Two a b m) e =
    let p = and_parts two _ e in
    let q = and_parts _ _ p.1 in
    two_spelled two a b m q.0 q.1 p.0

setting_spelled : (two : Bool) (s : Setting) → is_setting two s ≡ true
    → IsSpelledBy (SpellsSetting two) (setting_text s) s
setting_spelled two s e =
    let p = and_parts (nat_le 21 s.letter && nat_le s.letter 26) _ e in
    let q = and_parts (nat_le 21 s.letter) _ p.0 in
    let low = leb-true 21 s.letter q.0 in
    let high = leb-true s.letter 26 q.1 in
    let o = operand_spelled two s.operand p.1 in
    spelled_by _ (setting _ s.letter o.ps s.operand true (setting_back s.letter low high) o.spelled)
    (letter_front s.letter _ _ (omega (arith, high)) (sign_front 61 (operand_text s.operand) o.ps refl refl o.front))

settings_spelled : (two : Bool) (s : Setting) (ss : List Setting) → list_all (is_setting two) (s ∷ ss) ≡ true
    → IsSpelledBy (SpellsSettings two) (setting_text s ++ settings_after (codes ", ") ss) (s ∷ ss)
settings_spelled two s [] e =
    let w = setting_spelled two s (and_parts _ _ e).0 in
    spelled_by _ (last w.ps s true w.spelled) (rw (append-nil _) w.front)
settings_spelled two s (t ∷ ss) e =
    let p = and_parts _ _ e in
    let w = setting_spelled two s p.0 in
    let v = settings_spelled two t ss p.1 in
    spelled_by _ (more w.ps v.ps s (t ∷ ss) true true w.spelled v.spelled)
    (joined_front (setting_text s) (settings_after (codes ", ") (t ∷ ss)) w.ps (sign 44 ∷ v.ps) w.front
    (λ rest h. refl) (sign_front 44 _ v.ps refl refl (blank_front _ v.ps v.front)))

-- ---- statements

-- a keyword before other text
word_front : (w after : Text) (ps : List LinePart) → is_run w ≡ true → IsFront after ps
    → IsFront (w ++ 32 ∷ after) (run w ∷ ps)
word_front w after ps e f = run_front w (32 ∷ after) ps e (λ rest h. refl) (blank_front after ps f)

bytes_of : List ℕ → Text
bytes_of rows = map row_letter rows

-- what holds of the bytes of rows
record AreBytes (rows : List ℕ) : Type 0 where
  back : map row_of (bytes_of rows) ≡ map (λ r. Some r) rows
  none : has_quote (bytes_of rows) ≡ false
  plain : list_all is_line_byte (bytes_of rows) ≡ true

are_bytes : (rows : List ℕ) → list_all (λ c. nat_lt c 32) rows ≡ true → AreBytes rows
unfolding bytes_of
are_bytes [] e = record { back = refl; none = refl; plain = refl }
are_bytes (r ∷ rows) e =
    let p = and_parts _ _ e in
    let lt = ltb-true r 32 p.0 in
    let first = letter_back r lt in
    let others = are_bytes rows p.1 in
    let quote = not-true _ (from_below (λ j. not (slice_index letters j == 34)) 32 r refl lt) in
    record {
      back = λ i. first i ∷ others.back i;
      none = rw quote others.none;
      plain = and_from _ _ (letter_is_plain r lt) others.plain;
    }

-- a string of rows after a keyword
string_spelled : {A : Type 0} {S : List LinePart → A → Bool → Type 0} {a : A} (w : Text) (rows : List ℕ)
    → are_rows rows ≡ true → is_run w ≡ true
    → ((q : Text) → AreRowsOf q rows → S (run w ∷ quoted q ∷ []) a true)
    → IsSpelledBy S (w ++ 32 ∷ Written.string_text rows) a
unfolding bytes_of
string_spelled w rows e f step =
    let p = and_parts _ _ e in
    let b = are_bytes rows p.1 in
    let size : length (bytes_of rows) ≡ length rows = length-map rows row_letter in
    spelled_by _ (step (bytes_of rows) (record { some = ap (nat_le 1) size ∙ p.0; each = b.back }))
    (word_front w _ _ f (quoted_front _ [] [] b.none b.plain no_front))

length_back : (l : Bool) → length_of (Written.length_letter l) ≡ Some l
length_back l = search rules

length_front : (l : Bool) → IsFront (32 ∷ Written.length_letter l ∷ []) (sign (Written.length_letter l) ∷ [])
length_front false = blank_front _ _ (sign_front 70 [] [] refl refl no_front)
length_front true = blank_front _ _ (sign_front 68 [] [] refl refl no_front)

order_spelled : (two : Bool) (f : ℕ) (o : Operand) (l : Bool) → f < 32 → is_operand two o ≡ true
    → IsSpelledBy (SpellsPlaced two) (statement_text (statements.Order f o l)) (statements.Order f o l)
order_spelled two f (operands.Number zero) l lt e = spelled_by _
    (bare_order _ f _ l (function_back f lt) (length_back l)) (letter_front f _ _ lt (length_front l))
order_spelled two f o l lt e =
    let w = operand_spelled two o e in
    spelled_by _ (order _ f _ w.ps o l true (function_back f lt) w.spelled (length_back l))
    (letter_front f _ _ lt (blank_front _ _ (joined_front (operand_text o) _ w.ps _ w.front (λ rest h. refl)
    (length_front l))))

-- a number that is not negative
positive_spelled : (least most n : ℕ) → n ≤ most → most < 2 ^ 64
    → IsSpelledBy (SpellsInteger least most) (decimal n) (pos n)
positive_spelled least most n le lt =
    let h = numeral_of n (omega (arith, le, lt)) in
    let s = spells (SpellsInteger least most) (positive (decimal n) h.number) in
    spelled_by _ (rw (h.value_is, le-leb n most le) at s) (numeral_front n _ h)

placed_spelled : (two : Bool) (s : Statement) → may_have_label s ≡ true → is_statement two s ≡ true
    → IsSpelledBy (SpellsPlaced two) (statement_text s) s
placed_spelled two (statements.Order g o l) m e =
    let p = and_parts _ _ e in
    order_spelled two g o l (ltb-true g 32 p.0) p.1
placed_spelled two (statements.Number n) m e =
    let lt = ltb-true n (2 ^ 17) e in
    let w = positive_spelled 65536 131071 n (omega (arith, lt)) (omega arith) in
    let same : modulo 17 (pos n) ≡ n = omega (arith, lt) in
    spelled_by _ (rw same at (spells (SpellsPlaced two) (word w.ps (pos n) true w.spelled)))
    (word_front _ (decimal n) w.ps refl w.front)
placed_spelled two (statements.Long n) m e =
    let p = and_parts two _ e in
    let lt = ltb-true n (2 ^ 35) p.1 in
    let w = positive_spelled 17179869184 34359738367 n (omega (arith, lt)) (omega arith) in
    let same : modulo 35 (pos n) ≡ n = omega (arith, lt) in
    spelled_by _ (rw same at (spells (SpellsPlaced two) (long w.ps (pos n) true w.spelled p.0)))
    (word_front _ (decimal n) w.ps refl w.front)
placed_spelled two (statements.Text rows) m e = string_spelled (codes "text") rows.items e refl (λ q. text q rows.items)
placed_spelled two s m e = absurd (cc)

segment_spelled : (two : Bool) (a : Text) (b : Option ℕ) → is_name a ≡ true → is_base b ≡ true
    → IsSpelledBy (SpellsStatement two) (statement_text (statements.Segment a b)) (statements.Segment a b)
segment_spelled two a None e f = spelled_by _ (segment a e)
    (word_front _ _ _ refl (run_front a [] [] (name_part a e) (λ rest h. h) no_front))
segment_spelled two a (Some n) e f =
    let h = numeral_of n (grind (arith, nat_tests)) in
    spelled_by _ (rw (h.value_is, f) at (spells (SpellsStatement two) (segment_at a (decimal n) e h.number)))
    (word_front _ _ _ refl
    (word_front a _ _ (name_part a e) (word_front _ _ _ refl (numeral_front n _ h))))

fetch_spelled : (two : Bool) (a b : Text) (ss : List Setting) → is_name a ≡ true → is_name b ≡ true
    → list_all (is_setting two) ss ≡ true → nat_le (length ss) 6 ≡ true
    → IsSpelledBy (SpellsStatement two) (statement_text (statements.Fetch a b (array ss)))
    (statements.Fetch a b (array ss))
fetch_spelled two a b [] e f g few = spelled_by _ (fetch a b e f)
    (word_front _ _ _ refl (word_front a _ _ (name_part a e)
    (word_front _ _ _ refl (run_front b [] [] (name_part b f) (λ rest h. h) no_front))))
fetch_spelled two a b (s ∷ ss) e f g few =
    let w = settings_spelled two s ss g in
    spelled_by _ (fetch_with a b w.ps (s ∷ ss) true e f w.spelled few)
    (word_front _ _ _ refl (word_front a _ _ (name_part a e) (word_front _ _ _ refl
    (word_front b _ _ (name_part b f) (word_front _ _ w.ps refl w.front)))))

statement_spelled : (two : Bool) (s : Statement) → is_statement two s ≡ true → has_few_settings (Some s) ≡ true
    → IsSpelledBy (SpellsStatement two) (statement_text s) s
statement_spelled two (statements.Segment a b) e f =
    let p = and_parts (is_name a) _ e in segment_spelled two a b p.0 p.1
statement_spelled two (statements.Fetch a b ss) e f =
    let p = and_parts (is_name a) _ e in
    let q = and_parts (is_name b) _ p.1 in fetch_spelled two a b ss.items p.0 q.0 q.1 f
statement_spelled two (statements.Enter a) e f =
    spelled_by _ (enter a e) (word_front _ a _ refl (name_front a e))
statement_spelled two (statements.Rows rows) e f =
    string_spelled (codes "data") rows.items e refl (λ q. data_rows q rows.items)
statement_spelled two s e f =
    let w = placed_spelled two s refl e in spelled_by _ (placed w.ps s true w.spelled) w.front

-- ---- lines

-- a line's label and statement
pub form_spelled : (two : Bool) (k : ℕ) (l : Option Text) (s : Option Statement) → is_form two l s ≡ true
    → has_few_settings s ≡ true
    → IsSpelledBy (SpellsForm two k) (form_text l s) (record { label = l; statement = s })
form_spelled two k None None e f = spelled_by _ (empty k) no_front
form_spelled two k None (Some s) e f =
    let w = statement_spelled two s e f in spelled_by _ (statement k w.ps s true w.spelled) w.front
form_spelled two k (Some a) None e f = spelled_by _ (label k a e)
    (run_front a (58 ∷ []) _ (place_name_part two a e) (λ rest h. refl) (sign_front 58 [] [] refl refl no_front))
form_spelled two k (Some a) (Some s) e f =
    let p = and_parts _ _ e in
    let q = and_parts _ _ p.1 in
    let w = placed_spelled two s q.0 q.1 in
    spelled_by _ (labelled k a w.ps s true p.0 w.spelled) (run_front a _ _ (place_name_part two a p.0)
    (λ rest h. refl) (sign_front 58 _ w.ps refl refl (blank_front _ w.ps w.front)))

pub each_form_is_spelled : EachFormIsSpelled
each_form_is_spelled two k f e g =
    let w = form_spelled two k f.label f.statement e g in
    (_, record { parts = w.ps; has_parts = front_parts _ w.ps w.front; spells = w.spelled })

-- the line `version 2`
pub version_front : IsFront (codes "version 2") (run (codes "version") ∷ run (codes "2") ∷ [])
version_front = word_front (codes "version") (codes "2") _ refl (one_run_front (codes "2") refl)
