-- Lists that are made part after part.
use Rattle.ed_notation.proofs.Kit.{[], append_assoc, drop, length, List, nat_lt, refl, true, ℕ, ◌++◌, ◌+◌, ◌<◌, ◌∷◌}
use Rattle.ed_notation.proofs.Kit.{◌≡◌, ◌≤◌, flat_map, le-leb, lt-leb, lt-ltb, byte_of, ap, arith, get_or, sym, ◌%◌}
use Rattle.ed_notation.proofs.Kit.{◌/◌, ◌∙◌, digit_at, digits_of, line_from}
use Rattle.std.proofs.Common.{append-nil}
use Rattle.std.proofs.lemmas.List.{at_drop_more}

-- a part, and then another
pub append-joined : {A : Type 0} {next last : List A} (done part more : List A)
    → next ≡ done ++ part → last ≡ next ++ more → last ≡ done ++ (part ++ more)
append-joined {A} done part more first second =
    second ∙ ap (λ (xs : List A). xs ++ more) first ∙ append_assoc done part more

-- what was given, with the part of one more element, and then what the elements after it give
pub one_more : {A B : Type 0} {x : A} {next whole : List B} (give : List A → List B) (xs : List A) (i : ℕ) (d : A)
    (done part later : List B)
    → i < length xs → x ≡ get_or xs i d → give (x ∷ drop (i + 1) xs) ≡ part ++ later → next ≡ done ++ part
    → done ++ give (drop i xs) ≡ whole → next ++ later ≡ whole
one_more {A} {B} {x} give xs i d done part later below is first same before =
    ap (λ (ys : List B). ys ++ later) same ∙ append_assoc done part later
    ∙ ap (λ (ys : List B). done ++ ys)
    (sym first ∙ ap (λ (y : A). give (y ∷ drop (i + 1) xs)) is ∙ sym (at_drop_more give xs i d below)) ∙ before

-- the digit row at a power of ten that a number reaches
pub digit_there : (p n : ℕ) → p ≤ n → digit_at p n ≡ (n / p % 10) ∷ []
digit_there p n h = let e = le-leb p n h in rw e refl

-- and none at one that it doesn't reach
pub no_digit : (p n : ℕ) → n < p → digit_at p n ≡ []
no_digit p n h = let e = lt-leb p n h in rw e refl

-- the digit rows of a number, at one power after the other
pub digits_are : (n : ℕ) → flat_map (λ power. digit_at power n) (10000 ∷ 1000 ∷ 100 ∷ 10 ∷ 1 ∷ []) ≡ digits_of n
digits_are n =
    ap (λ (ds : List ℕ). digit_at 10000 n ++ (digit_at 1000 n ++ (digit_at 100 n ++ (digit_at 10 n ++ ds))))
    (append-nil _)

-- the byte of one more row of an item
pub more_line : {next whole : List ℕ} (rows : List ℕ) (i c : ℕ) (done : List ℕ)
    → i < length rows → c ≡ get_or rows i c → next ≡ done ++ byte_of c (nat_lt 0 i) ∷ []
    → done ++ line_from (nat_lt 0 i) (drop i rows) ≡ whole
    → next ++ line_from (nat_lt 0 (i + 1)) (drop (i + 1) rows) ≡ whole
more_line rows i c done below is same before =
    one_more (line_from (nat_lt 0 i)) rows i c done _ _ below is
    (ap (λ b. byte_of c (nat_lt 0 i) ∷ line_from b (drop (i + 1) rows)) (sym (after i))) same before
  where
    after : (i : ℕ) → nat_lt 0 (i + 1) ≡ true
    after i = lt-ltb 0 (i + 1) (omega arith)
