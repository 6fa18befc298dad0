-- What is left of the numerators after some decimals of e, and what the lines of `examples/decimals.edsac` print.
use Rattle.ed_programs.proofs.Kit.{[], ap, length, List, refl, suc, zero, ℕ, ◌*◌, ◌++◌, ◌+◌, ◌∙◌, ◌∷◌, ◌≡◌, carries}
use Rattle.ed_programs.proofs.Kit.{tenfold}

-- the numerators after m decimals, and the sum of all carries
abbrev pub after : ℕ → List ℕ → List ℕ
after zero ns = ns
after (suc m) ns = after m (tenfold 2 ns).left

abbrev pub units : ℕ → List ℕ → ℕ
units zero ns = 0
units (suc m) ns = let t = tenfold 2 ns in t.units + units m t.left

-- what a line of j + 1 groups prints, the numerators after it, and its orders
abbrev pub line_codes : ℕ → List ℕ → List ℕ
line_codes zero ns = carries 10 ns
line_codes (suc j) ns = carries 10 ns ++ 20 ∷ line_codes j (after 10 ns)

abbrev pub line_left : ℕ → List ℕ → List ℕ
line_left zero ns = after 10 ns
line_left (suc j) ns = line_left j (after 10 ns)

abbrev pub line_orders : ℕ → List ℕ → ℕ
line_orders zero ns = 18686 + 8 * units 10 ns
line_orders (suc j) ns = 18688 + 8 * units 10 ns + line_orders j (after 10 ns)

-- the same for j + 1 lines of five groups
abbrev pub page_codes : ℕ → List ℕ → List ℕ
page_codes zero ns = line_codes 4 ns ++ 18 ∷ 24 ∷ []
page_codes (suc j) ns = line_codes 4 ns ++ 18 ∷ 24 ∷ page_codes j (line_left 4 ns)

abbrev pub page_orders : ℕ → List ℕ → ℕ
page_orders zero ns = line_orders 4 ns + 13
page_orders (suc j) ns = line_orders 4 ns + 13 + page_orders j (line_left 4 ns)

abbrev pub page_left : ℕ → List ℕ → List ℕ
page_left zero ns = line_left 4 ns
page_left (suc j) ns = page_left j (line_left 4 ns)

-- ---- no numerator is lost

pub tenfold_long : (d : ℕ) (ns : List ℕ) → length (tenfold d ns).left ≡ length ns
tenfold_long d [] = refl
tenfold_long d (n ∷ ns) = ap suc (tenfold_long (suc d) ns)

pub after_long : (m : ℕ) (ns : List ℕ) → length (after m ns) ≡ length ns
after_long zero ns = refl
after_long (suc m) ns = after_long m (tenfold 2 ns).left ∙ tenfold_long 2 ns

pub line_long : (j : ℕ) (ns : List ℕ) → length (line_left j ns) ≡ length ns
line_long zero ns = after_long 10 ns
line_long (suc j) ns = line_long j (after 10 ns) ∙ after_long 10 ns
