-- Why the method is right: what it gives with any number of divisors are the decimals of the sum of the fractions.
use Rattle.ed_programs.proofs.Kit.{mod-lt, div-add-mod, mul-le-mul_right, [], ap, arith, List, lit<, lit≤, refl, subst}
use Rattle.ed_programs.proofs.Kit.{suc, sym, zero, ℕ, ◌*◌, ◌+◌, ◌/◌, ◌<◌, ◌^◌, ◌∙◌, ◌∷◌, ◌≡◌, ◌≤◌, replicate, carries}
use Rattle.ed_programs.proofs.Kit.{factorial, parts, tenfold, rules}
use Rattle.std.proofs.Math.Nat.{pow-suc}
use Rattle.std.proofs.lemmas.Nat.{div-mul-add}
use Rattle.ed_notation.specs.Items.{digits_number}
use Rattle.ed_programs.specs.Decimals.{MethodIsRight}
use Rattle.ed_programs.proofs.DecimalsPass.{after}

-- the product of the divisors, and the sum of the fractions in parts of it
abbrev weight : ℕ → List ℕ → ℕ
weight d [] = 1
weight d (n ∷ ns) = d * weight (suc d) ns

abbrev value : ℕ → List ℕ → ℕ
value d [] = 0
value d (n ∷ ns) = n * weight (suc d) ns + value (suc d) ns

-- each numerator is below its divisor
abbrev Small : ℕ → List ℕ → Type 0
Small d [] = Unit {0}
Small d (n ∷ ns) = (n < d) × Small (suc d) ns

weight_left : (d : ℕ) (ns : List ℕ) → weight d (tenfold d ns).left ≡ weight d ns
weight_left d [] = refl
weight_left d (n ∷ ns) = ap (λ w. d * w) (weight_left (suc d) ns)

small_left : (d : ℕ) (ns : List ℕ) → 1 ≤ d → Small d (tenfold d ns).left
small_left d [] some = tt
small_left d (n ∷ ns) some = search (rules, mod-lt, small_left (suc d) ns (omega arith))

-- so they are together less than 1
less_than_one : (d : ℕ) (ns : List ℕ) → Small d ns → value d ns < weight d ns
less_than_one d [] o = lit< tt
less_than_one d (n ∷ ns) o =
    let rest = less_than_one (suc d) ns o.1 in
    let next : suc n ≤ d = omega (arith, o.0) in
    let all : suc n * weight (suc d) ns ≤ d * weight (suc d) ns = mul-le-mul_right (weight (suc d) ns) next in
    omega (arith, rest, all)

-- ten times the sum is the carry and what is left over
tenfold_is : (d : ℕ) (ns : List ℕ) → 10 * value d ns ≡ (tenfold d ns).carry * weight d ns + value d (tenfold d ns).left
tenfold_is d [] = refl
tenfold_is d (n ∷ ns) =
    let x : ℕ = 10 * n + (tenfold (suc d) ns).carry in
    let rest = tenfold_is (suc d) ns in
    let shares = ap (λ y. y * weight (suc d) ns) (div-add-mod x d) in
    rw (weight_left (suc d) ns) (omega (arith, rest, shares))

-- 10^m times a number and the sum, by the decimals
decimals_are : (m : ℕ) (ns : List ℕ) (h : ℕ) → 10 ^ m * (h * weight 2 ns + value 2 ns)
    ≡ digits_number h (carries m ns) * weight 2 ns + value 2 (after m ns)
decimals_are zero ns h = omega arith
decimals_are (suc m) ns h =
    let left : List ℕ = (tenfold 2 ns).left in
    let c : ℕ = (tenfold 2 ns).carry in
    let w : ℕ = weight 2 ns in
    let rest : 10 ^ m * ((10 * h + c) * w + value 2 left)
    ≡ digits_number (10 * h + c) (carries m left) * w + value 2 (after m left) =
    subst (λ y. 10 ^ m * ((10 * h + c) * y + value 2 left)
    ≡ digits_number (10 * h + c) (carries m left) * y + value 2 (after m left)) (weight_left 2 ns)
    (decimals_are m left (10 * h + c)) in
    let ten : 10 * (h * w + value 2 ns) ≡ (10 * h + c) * w + value 2 left =
    let e = tenfold_is 2 ns in omega (arith, e) in
    let power : 10 ^ suc m ≡ 10 ^ m * 10 = pow-suc 10 m in
    ap (λ y. y * (h * w + value 2 ns)) power ∙ omega arith ∙ ap (λ y. 10 ^ m * y) ten ∙ rest

after_small : (m : ℕ) (ns : List ℕ) → Small 2 ns → Small 2 (after m ns)
after_small zero ns o = o
after_small (suc m) ns o = after_small m (tenfold 2 ns).left (small_left 2 ns (lit≤ tt))

-- so they are the decimals of the sum
floor_is : (m : ℕ) (ns : List ℕ) (h : ℕ) → Small 2 ns
    → digits_number h (carries m ns) ≡ 10 ^ m * (h * weight 2 ns + value 2 ns) / weight 2 ns
floor_is m ns h o =
    let low : value 2 (after m ns) < weight 2 ns = subst (λ y. value 2 (after m ns) < y) (after_weight m ns)
    (less_than_one 2 (after m ns) (after_small m ns o)) in
    sym (ap (λ y. y / weight 2 ns) (decimals_are m ns h)
    ∙ div-mul-add (digits_number h (carries m ns)) (weight 2 ns) (value 2 (after m ns)) low)
  where
    after_weight : (m : ℕ) (ns : List ℕ) → weight 2 (after m ns) ≡ weight 2 ns
    after_weight zero ns = refl
    after_weight (suc m) ns = after_weight m (tenfold 2 ns).left ∙ weight_left 2 ns

-- ---- numerators that are all 1

ones_small : (d k : ℕ) → 2 ≤ d → Small d (replicate k 1)
ones_small d zero some = tt
ones_small d (suc k) some = (omega arith, ones_small (suc d) k (omega arith))

-- one divisor more
weight_more : (d k : ℕ) → weight d (replicate (suc k) 1) ≡ (d + k) * weight d (replicate k 1)
weight_more d zero = omega arith
weight_more d (suc k) =
    ap (λ w. d * w) (weight_more (suc d) k) ∙ omega arith

value_more : (d k : ℕ) → value d (replicate (suc k) 1) ≡ (d + k) * value d (replicate k 1) + 1
value_more d zero = omega arith
value_more d (suc k) = search (rules, weight_more, value_more (suc d) k)

factorial_is : (k : ℕ) → weight 2 (replicate k 1) ≡ factorial (suc k)
factorial_is zero = refl
factorial_is (suc k) = let two : 2 + k ≡ suc (suc k) = omega arith in rw (weight_more 2 k, two, factorial_is k) refl

parts_are : (k : ℕ) → 2 * weight 2 (replicate k 1) + value 2 (replicate k 1) ≡ parts (suc k)
parts_are zero = refl
parts_are (suc k) =
    let first = weight_more 2 k in let second = value_more 2 k in rw (first, second, sym (parts_are k)) (omega arith)

pub method_is_right : MethodIsRight
method_is_right k m = search (rules, floor_is, ones_small, lit≤, parts_are, factorial_is)
