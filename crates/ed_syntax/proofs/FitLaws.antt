-- What is spelled with its numbers in their ranges is a form that a line of a program may have.
use Rattle.ed_syntax.proofs.Kit.{[], ap, Bool, IfSome, List, map, nat_le, nat_lt, neg_ℤ, Option, pos, refl}
use Rattle.ed_syntax.proofs.Kit.{Some, subst, true, unsigned_abs, ℕ, ℤ, ◌<◌, ◌^◌, ◌∙◌, ◌∷◌, ◌≡◌, rules}
use Rattle.ed_syntax.proofs.Kit.{list_all, and_from, and_parts, le-leb, lt-ltb, value, Text, row_of, arith}
use Rattle.ed_syntax.proofs.Kit.{AreRowsOf, bare_order, difference, label}
use Rattle.ed_syntax.proofs.Kit.{labelled, last, long, minus, more, name, number, order, plus}
use Rattle.ed_syntax.proofs.Kit.{setting, SpellsForm, SpellsOperand, SpellsPlaced, SpellsSetting}
use Rattle.ed_syntax.proofs.Kit.{SpellsSettings, SpellsStatement, statement, sum, text, word, is_place_name}
use Rattle.ed_syntax.proofs.Kit.{function, LinePart, modulo, are_rows, is_form, is_operand, is_setting, is_statement}
use Rattle.ed_syntax.proofs.Kit.{may_have_label, Form, Operand, Setting, Statement, common_steps}
use Rattle.std.proofs.Common.{lit<}
use Rattle.ed_syntax.specs.Forms.{EachSpelledIsForm, FormsAreSpelled}
use Rattle.ed_syntax.proofs.Ranges.{IsLetter, letter_within, function_fits, modulo_fits, row_fits}
use Rattle.ed_syntax.proofs.Spelled.{each_form_is_spelled}

-- what holds of what an option has
some_has : (P : ℕ → Type 0) (o : Option ℕ) (n : ℕ) → o ≡ Some n → IfSome o P → P n
some_has P o n e h = subst (λ (x : Option ℕ). IfSome x P) e h

negative_size : (n : ℕ) → unsigned_abs (neg_ℤ (pos n)) ≡ n
negative_size n = search rules

operand_fits : (two : Bool) (ps : List LinePart) (o : Operand) (fits : Bool) → SpellsOperand two ps o fits
    → fits ≡ true → is_operand two o ≡ true
operand_fits two _ _ _ (number n e) h = h
operand_fits two _ _ _ (name a e) h = and_from (is_place_name two a) _ e refl
operand_fits two _ _ _ (plus a n e f) h = and_from (is_place_name two a) _ e h
operand_fits two _ _ _ (minus a n e f) h =
    and_from (is_place_name two a) _ e (ap (λ (m : ℕ). nat_le m 1023) (negative_size (value n)) ∙ h)
operand_fits two _ _ _ (sum a b e f g) h = and_from two _ g (and_from (is_place_name two a) _ e f)
operand_fits two _ _ _ (difference a b e f g) h = and_from two _ g (and_from (is_place_name two a) _ e f)

setting_fits : (two : Bool) (ps : List LinePart) (s : Setting) (fits : Bool) → SpellsSetting two ps s fits
    → fits ≡ true → is_setting two s ≡ true
setting_fits two _ _ _ (setting b l ps o fits hl ho) h =
    let letter : IsLetter l = some_has IsLetter _ l hl (letter_within b) in
    and_from _ _ (and_from _ _ (le-leb 21 l letter.low) (le-leb l 26 letter.high)) (operand_fits two ps o fits ho h)

settings_fit : (two : Bool) (ps : List LinePart) (ss : List Setting) (fits : Bool) → SpellsSettings two ps ss fits
    → fits ≡ true → list_all (is_setting two) ss ≡ true
settings_fit two _ _ _ (last ps s fits g) h = and_from (is_setting two s) true (setting_fits two ps s fits g h) refl
settings_fit two _ _ _ (more ps qs s ss fits also g i) h =
    let p = and_parts fits also h in
    and_from (is_setting two s) _ (setting_fits two ps s fits g p.0) (settings_fit two qs ss also i p.1)

-- the rows that bytes spell are codes
codes_fit : (q : Text) (rows : List ℕ) → map row_of q ≡ map (λ r. Some r) rows
    → list_all (λ c. nat_lt c 32) rows ≡ true
codes_fit [] [] e = refl
codes_fit [] (r ∷ rows) e = absurd (cc)
codes_fit (b ∷ q) [] e = absurd (cc)
codes_fit (b ∷ q) (r ∷ rows) e =
    let below : r < 32 = some_has (λ c. c < 32) (row_of b) r (first (row_of b) (Some r) _ _ e) (row_fits b) in
    and_from (nat_lt r 32) _ (lt-ltb r 32 below) (codes_fit q rows (others (row_of b) (Some r) _ _ e))
  where
    first : (x y : Option ℕ) (xs ys : List (Option ℕ)) → x ∷ xs ≡ y ∷ ys → x ≡ y
    first x y xs ys e = cc

    others : (x y : Option ℕ) (xs ys : List (Option ℕ)) → x ∷ xs ≡ y ∷ ys → xs ≡ ys
    others x y xs ys e = cc

rows_fit : (q : Text) (rows : List ℕ) → AreRowsOf q rows → are_rows rows ≡ true
rows_fit q rows h = grind (arith, common_steps, codes_fit)

word_fits : (z : ℤ) → nat_lt (modulo 17 z) (2 ^ 17) ≡ true
word_fits z = lt-ltb _ _ (modulo_fits (2 ^ 17) z (lit< tt))

long_fits : (z : ℤ) → nat_lt (modulo 35 z) (2 ^ 35) ≡ true
long_fits z = lt-ltb _ _ (modulo_fits (2 ^ 35) z (lit< tt))

code_fits : (b f : ℕ) → function b ≡ Some f → nat_lt f 32 ≡ true
code_fits b f e = lt-ltb f 32 (some_has (λ c. c < 32) _ f e (function_fits b))

placed_fits : (two : Bool) (ps : List LinePart) (s : Statement) (fits : Bool) → SpellsPlaced two ps s fits
    → fits ≡ true → (may_have_label s ≡ true) × (is_statement two s ≡ true)
placed_fits two _ _ _ (order b f e ps o l fits hf ho hl) h =
    (refl, and_from (nat_lt f 32) _ (code_fits b f hf) (operand_fits two ps o fits ho h))
placed_fits two _ _ _ (bare_order b f e l hf hl) h = (refl, and_from (nat_lt f 32) _ (code_fits b f hf) refl)
placed_fits two _ _ _ (word ps z fits g) h = (refl, word_fits z)
placed_fits two _ _ _ (long ps z fits g v) h = (refl, and_from two _ v (long_fits z))
placed_fits two _ _ _ (text q rows g) h = (refl, rows_fit q rows g)

statement_fits : (two : Bool) (ps : List LinePart) (s : Statement) (fits : Bool) → SpellsStatement two ps s fits
    → fits ≡ true → is_statement two s ≡ true
statement_fits two ps s fits h fit = search (rules, placed_fits, settings_fit, rows_fit)

form_fits : (two : Bool) (k : ℕ) (ps : List LinePart) (f : Form) (fits : Bool) → SpellsForm two k ps f fits
    → fits ≡ true → is_form two f.label f.statement ≡ true
form_fits two _ _ _ _ (label k a e) h = e
form_fits two _ _ _ _ (statement k ps s fits g) h = statement_fits two ps s fits g h
form_fits two _ _ _ _ (labelled k a ps s fits e g) h =
    let p = placed_fits two ps s fits g h in and_from (is_place_name two a) _ e (and_from (may_have_label s) _ p.0 p.1)
form_fits two _ _ _ _ x h = refl

pub each_spelled_is_form : EachSpelledIsForm
each_spelled_is_form two k line f s = form_fits two k s.parts f true s.spells refl

pub forms_are_spelled : FormsAreSpelled
forms_are_spelled = record { each = each_form_is_spelled; only = each_spelled_is_form }
