-- One more piece at the end of a text.
use Rattle.std.proofs.Common.{◌≤◌, ℕ}
use Rattle.std.proofs.Common.{List, ◌∷◌, ◌++◌, sym, subst}
use Rattle.std.proofs.Common.{append_assoc, length, arith}
use Rattle.std.proofs.lemmas.List.{length-append}
use Rattle.ed_codes.specs.Text.{Spells, none, row, spacing, comment}

-- a text of pieces, and then another
pub spells_append : (a x b y : List ℕ) → Spells a x → Spells b y → Spells (a ++ b) (x ++ y)
spells_append _ _ b y none t = t
spells_append _ _ b y (row byte code text rows e s) t =
    row byte code (text ++ b) (rows ++ y) e (spells_append text rows b y s t)
spells_append _ _ b y (spacing byte text rows e s) t =
    spacing byte (text ++ b) (rows ++ y) e (spells_append text rows b y s t)
spells_append _ _ b y (comment inside text rows e s) t =
    let whole = comment inside (text ++ b) (rows ++ y) e (spells_append text rows b y s t) in
    subst (λ (l : List ℕ). Spells (91 ∷ l) (rows ++ y)) (sym (append_assoc inside (93 ∷ text) b)) whole

-- a text spells no more rows than it has bytes
pub few_rows : (text rows : List ℕ) → Spells text rows → length rows ≤ length text
few_rows _ _ none = omega arith
few_rows _ _ (row byte code text rows is s) = omega (arith, few_rows text rows s)
few_rows _ _ (spacing byte text rows is s) = omega (arith, few_rows text rows s)
few_rows _ _ (comment inside text rows is s) = omega (arith, few_rows text rows s, length-append inside (93 ∷ text))
