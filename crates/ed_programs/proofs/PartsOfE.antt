-- The whole part of 10^n e: which number it is, by two comparisons.
use Rattle.ed_programs.proofs.Kit.{div-lt_iff_lt-mul, mul-le-mul_right, arith, lit<, lit≤, refl, subst, suc, sym, zero}
use Rattle.ed_programs.proofs.Kit.{ℕ, ◌*◌, ◌+◌, ◌-◌, ◌/◌, ◌<◌, ◌^◌, ◌∙◌, ◌≡◌, ◌≤◌, value, decimals_prints, factorial}
use Rattle.ed_programs.proofs.Kit.{parts}
use Rattle.std.proofs.Common.{filter}
use Rattle.std.proofs.Math.Nat.{le-div_iff_mul-le, mul-le-mul_left, mul-pos}
use Rattle.ed_words.specs.Decimals.{is_digit}
use Rattle.ed_programs.specs.Decimals.{FiguresAreCarries, IsOneNumber, IsWholePart}

some_factorial : (k : ℕ) → 0 < factorial k
some_factorial zero = lit< tt
some_factorial (suc k) = let rest = some_factorial k in mul-pos (omega arith) rest

-- p parts of f, times t, have the whole part m, and one part more does not bring it to m + 1, not even nearer than the
-- share 1 of s
record Bounds (m t s f p : ℕ) : Type 0 where
  low : m * f ≤ t * p
  less : t * (p + 1) + 1 ≤ (m + 1) * f
  far : t * (p + 1) * s + f ≤ (m + 1) * f * s

-- the same for the next sum
next : (m t s f p j : ℕ) → 1 ≤ j → Bounds m t s f p → Bounds m t s (suc j * f) (suc j * p + 1)
next m t s f p j some o =
    let a : suc j * (m * f) ≤ suc j * (t * p) = mul-le-mul_left (suc j) o.low in
    let b : suc j * (t * (p + 1) + 1) ≤ suc j * ((m + 1) * f) = mul-le-mul_left (suc j) o.less in
    let c : suc j * (t * (p + 1) * s + f) ≤ suc j * ((m + 1) * f * s) = mul-le-mul_left (suc j) o.far in
    let one : t * 1 ≤ t * j = mul-le-mul_left t some in
    let ones : t * s * 1 ≤ t * s * j = mul-le-mul_left (t * s) some in
    record { low = omega (arith, a); less = omega (arith, b, one); far = omega (arith, c, ones) }

-- so two comparisons with the sum up to 1/k! are enough, by the numbers that k! and its parts are
pub by_numbers : (n k m f p : ℕ) → 1 ≤ k → factorial k ≡ f → parts k ≡ p → m * f ≤ 10 ^ n * p
    → 10 ^ n * (p + 1) + 1 ≤ (m + 1) * f → IsWholePart n m
by_numbers n k m f p some is_f is_p low high = record {
  from = k;
  each = λ j least.
      let o = later j least in
      let a : m ≤ 10 ^ n * parts j / factorial j = (le-div_iff_mul-le (some_factorial j)).1 o.low in
      let b : 10 ^ n * parts j / factorial j < m + 1 =
      let less = o.less in (div-lt_iff_lt-mul (some_factorial j)).1 (omega (arith, less)) in
      omega (arith, a, b);
  shares = f;
  some = subst (λ x. 1 ≤ x) is_f (some_factorial k);
  below = λ j least. let far = (later j least).far in omega (arith, far);
}
  where
    bounds : (i : ℕ) → Bounds m (10 ^ n) f (factorial (k + i)) (parts (k + i))
    bounds zero =
        let e : k + 0 ≡ k = omega arith in
        let far = mul-le-mul_right f high in
        rw (e, is_f, is_p) record { low = low; less = high; far = omega (arith, far) }
    bounds (suc i) =
        let e : k + suc i ≡ suc (k + i) = omega arith in
        rw e (next m (10 ^ n) f (factorial (k + i)) (parts (k + i)) (k + i) (omega arith) (bounds i))

    later : (j : ℕ) → k ≤ j → Bounds m (10 ^ n) f (factorial j) (parts j)
    later j least =
        let e : k + (j - k) ≡ j = omega arith in
        subst (λ x. Bounds m (10 ^ n) f (factorial x) (parts x)) e (bounds (j - k))

number_is : value (filter is_digit decimals_prints)
    ≡ 27182818284590452353602874713526624977572470936999595749669676277240766303535475945713821785251664274
number_is = refl

-- two such numbers are the same, by a sum that is late enough for both
pub one_number : IsOneNumber
one_number n a b o p = sym (o.each (o.from + p.from) (omega arith)) ∙ p.each (o.from + p.from) (omega arith)

pub figures_are_carries : FiguresAreCarries
figures_are_carries = number_is ∙ refl

-- the figures of the text, by the sum up to 1/75!
pub IsWholePart-hundred : IsWholePart 100 (value (filter is_digit decimals_prints))
IsWholePart-hundred =
    subst (λ m. IsWholePart 100 m) (sym number_is)
    (by_numbers 100 75
    27182818284590452353602874713526624977572470936999595749669676277240766303535475945713821785251664274
    24809140811395398091946477116594033660926243886570122837795894512655842677572867409443815424000000000000000000
    67438236647297803839017495699061310674468731616371594968305856720796742106912255031092565810985359123896908376
    (lit≤ tt) refl refl (lit≤ tt) (lit≤ tt))
