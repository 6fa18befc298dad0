-- The text of a tape spells its rows.
use Rattle.ed_link.proofs.Kit.{reading, rows, Spells, [], drop, false, get_or, length, List, refl, Some, subst, true}
use Rattle.ed_link.proofs.Kit.{ℕ, ◌++◌, ◌+◌, ◌<◌, ◌∷◌, ◌≡◌, ◌≤◌, byte_of, line_from, ◌==◌, drop_more, after_text}
use Rattle.std.proofs.lemmas.List.{drop_all}
use Rattle.ed_codes.specs.Reading.{IsReadingOf, Reading}
use Rattle.ed_codes.specs.Spelling.{row_of}
use Rattle.ed_codes.specs.Text.{none, row, spacing}
use Rattle.ed_codes.proofs.Pieces.{spells_append}
use Rattle.ed_codes.proofs.Readings.{has_one_reading}
use Rattle.ed_link.proofs.Kit.{rules, arith}

-- a text that reads as rows, and one after it that spells rows
pub both_read : (before after : List ℕ) (cs ds : List ℕ) → reading before ≡ rows cs → Spells after ds
    → reading (before ++ after) ≡ rows (cs ++ ds)
both_read before after cs ds e s =
    let b : Spells before cs = subst (λ (r : Reading). IsReadingOf before r) e (has_one_reading.every before) in
    has_one_reading.only (before ++ after) (rows (cs ++ ds)) (spells_append before cs after ds b s)

-- if there are rows their text is a line
pub some_text : (cs : List ℕ) → false ≡ (length cs == 0) → after_text cs ≡ line_from true cs
some_text cs h = grind arith

-- if there are no rows there is no text
pub no_text : (cs : List ℕ) → true ≡ (length cs == 0) → Spells (after_text cs) cs
no_text [] h = none
no_text (c ∷ cs) h = search rules

-- after the last row a line feed is left
pub last_spells : (cs : List ℕ) (k : ℕ) → length cs ≤ k → Spells (line_from true (drop k cs)) (drop k cs)
last_spells cs k h = rw (drop_all k cs h) (spacing 10 [] [] refl none)

-- one row more
pub one_spells : {c byte : ℕ} (cs : List ℕ) (k : ℕ) → k < length cs → c ≡ get_or cs k c → byte ≡ byte_of c true
    → row_of byte ≡ Some c
    → Spells (line_from true (drop (k + 1) cs)) (drop (k + 1) cs) → Spells (line_from true (drop k cs)) (drop k cs)
one_spells {c} cs k below is spelled back s =
    let e : drop k cs ≡ c ∷ drop (k + 1) cs =
    rw is (drop_more cs k c below) in
    let b : row_of (byte_of c true) ≡ Some c = rw spelled at back in
    rw e (row (byte_of c true) c (line_from true (drop (k + 1) cs)) (drop (k + 1) cs) b s)
