-- Texts whose bytes spell rows of tape.
use Rattle.ed_programs.proofs.Kit.{few_bytes, arith, none, Spells, are_digits-digits, decimal_is, row_bytes, rows_are}
use Rattle.ed_programs.proofs.Kit.{written, [], ap, Bool, decimal, length, List, map, nat_lt, None, Option, refl, Some}
use Rattle.ed_programs.proofs.Kit.{subst, suc, true, ℕ, ◌%◌, ◌<◌, ◌∙◌, ◌∷◌, ◌≡◌, ◌≤◌, list_all, and_parts, lt-ltb, Text}
use Rattle.ed_programs.proofs.Kit.{row_of, row, spells, digits, ◌&&◌, common_steps}
use Rattle.ed_codes.specs.Text.{row as one_row}
use Rattle.ed_syntax.specs.Forms.{AreRowsOf}

-- the rows of a text
abbrev pub text_rows : Text → List ℕ
text_rows q = map (λ b. row (row_of b)) q

some_row : (o : Option ℕ) → spells o ≡ true → o ≡ Some (row o)
some_row (Some code) h = refl
some_row None h = cc

-- a text of such bytes spells its rows
pub text_spells : (q : Text) → list_all (λ b. spells (row_of b)) q ≡ true → Spells q (text_rows q)
text_spells [] h = none
text_spells (b ∷ q) h =
    let p = and_parts (spells (row_of b)) (list_all (λ b. spells (row_of b)) q) h in
    one_row b (row (row_of b)) q (text_rows q) (some_row (row_of b) p.0) (text_spells q p.1)

-- a byte of ASCII that spells a row
abbrev pub is_row_byte : ℕ → Bool
is_row_byte b = nat_lt b 128 && spells (row_of b)

-- a byte that spells a row is below 128
row_below : (b r : ℕ) → row_of b ≡ Some r → b < 128
row_below b r is = grind (arith, common_steps)

-- the bytes of a text that spell rows are such bytes, and these rows are the text's
spelled : (q : Text) (rows : List ℕ) → map row_of q ≡ map (λ r. Some r) rows
    → (list_all is_row_byte q ≡ true) × (text_rows q ≡ rows)
spelled [] [] e = (refl, refl)
spelled [] (r ∷ rows) e = absurd (cc)
spelled (b ∷ q) [] e = absurd (cc)
spelled (b ∷ q) (r ∷ rows) e =
    let first : row_of b ≡ Some r = cc in
    let more : map row_of q ≡ map (λ r. Some r) rows = cc in
    let rest = spelled q rows more in
    let low : nat_lt b 128 ≡ true = lt-ltb b 128 (row_below b r first) in
    rw (low, first, rest.0, rest.1) (refl, refl)

pub rows_spelled : {q : Text} {rows : List ℕ} → AreRowsOf q rows
    → (list_all is_row_byte q ≡ true) × (text_rows q ≡ rows)
rows_spelled {q} {rows} are = spelled q rows are.each

-- ---- numbers

-- a number in decimal spells its digits
pub number_spells : (n : ℕ) → n ≤ 65535 → Spells (decimal n) (digits n)
number_spells n small =
    let below : suc n ≤ 65536 = omega (arith, small) in
    subst (λ (t : Text). Spells t (digits n)) (decimal_is n below)
    (subst (Spells (written (digits n))) (rows_are (digits n) (are_digits-digits n below))
    (text_spells (written (digits n)) (row_bytes (digits n) (are_digits-digits n below))))

-- and has at most five bytes
pub few_figures : (n : ℕ) → n ≤ 65535 → length (decimal n) ≤ 5
few_figures n small =
    let few = few_bytes n (omega arith) in let same = ap length (decimal_is n (omega arith)) in omega (arith, few, same)

-- a number below 10 has one digit
pub one_figure : (d : ℕ) → d < 10 → digits d ≡ d % 10 ∷ []
one_figure d few = grind (arith, common_steps)

pub figure_spells : (n : ℕ) → n < 10 → Spells (decimal n) (n ∷ [])
figure_spells n few =
    let one : n % 10 ≡ n = omega (arith, few) in
    subst (Spells (decimal n)) (one_figure n few ∙ ap (λ d. d ∷ []) one) (number_spells n (omega (arith, few)))
