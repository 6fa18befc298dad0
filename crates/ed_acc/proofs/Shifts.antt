-- The digits of an accumulator, shifted.
use Rattle.std.proofs.Common.{◌≡◌, ℕ, ◌+◌, ◌-◌, ◌*◌, ◌/◌, ◌%◌, ◌^◌, ◌<◌, ◌≤◌, ap, ◌∙◌, arith, negsuc}
use Rattle.std.proofs.lemmas.Bool.Decides.{nat_tests}
use Rattle.std.proofs.lemmas.Nat.{pow-add, pow_pos, div-mul-add, div-add-mod', mod_below, shr_below, shr_le}
use Rattle.ed_words.specs.Signed.{signed}
use Rattle.ed_acc.specs.Arithmetic.{right71}

-- the remaining part of a block, divided
pub complement_div : (q t b r : ℕ) → r < b → ((q + 1 + t) * b - 1 - (q * b + r)) / b ≡ t
complement_div q t b r h =
    let e : (q + 1 + t) * b - 1 - (q * b + r) ≡ t * b + (b - 1 - r) = omega arith in
    rw e (div-mul-add t b (b - 1 - r) (omega arith))

-- with n the number of values, as a product of the divisor
negative_core : (n q t r b : ℕ) → r < b → n ≡ (q + 1 + t) * b
    → ((q * b + r) / b + (n - n / b) < n) × ((q * b + r) / b + (n - n / b) ≡ n - 1 - (n - 1 - (q * b + r)) / b)
negative_core n q t r b h whole =
    let first : (q * b + r) / b ≡ q = div-mul-add q b r h in
    let second : n / b ≡ q + 1 + t = rw whole (all_of (q + 1 + t) b (omega arith)) in
    let third : (n - 1 - (q * b + r)) / b ≡ t = rw whole (complement_div q t b r h) in
    let room : q + 1 + t ≤ n = rw whole (le-mul (q + 1 + t) b (omega arith)) in
    rw (first, second, third) (omega arith, omega arith)
  where
    all_of : (m b : ℕ) → 0 < b → (m * b) / b ≡ m
    all_of m b h = let z : m * b ≡ m * b + 0 = omega arith in rw z (div-mul-add m b 0 h)

    le-mul : (m b : ℕ) → 0 < b → m ≤ m * b
    le-mul m b h = grind arith

-- a negative number shifted, on its 71 digits
pub negative_shifted : (a p : ℕ) → a < 2 ^ 71 → p ≤ 71
    → (a / 2 ^ p + (2 ^ 71 - 2 ^ 71 / 2 ^ p) < 2 ^ 71)
    × (a / 2 ^ p + (2 ^ 71 - 2 ^ 71 / 2 ^ p) ≡ 2 ^ 71 - 1 - (2 ^ 71 - 1 - a) / 2 ^ p)
negative_shifted a p fits short =
    let b = 2 ^ p in let q = a / b in let t = 2 ^ (71 - p) - 1 - q in
    let parts : q * b + a % b ≡ a = div-add-mod' a b in
    let e : 71 ≡ 71 - p + p = omega arith in
    let below : q < 2 ^ (71 - p) = shr_below a (71 - p) p (rw (← e) fits) in
    let m : q + 1 + t ≡ 2 ^ (71 - p) = omega arith in
    let whole : 2 ^ 71 ≡ (q + 1 + t) * b = rw m (ap (λ k. 2 ^ k) e ∙ pow-add 2 (71 - p) p) in
    rw parts at (negative_core (2 ^ 71) q t (a % b) b (mod_below a b (pow_pos p)) whole)

signed_high : (a : ℕ) → 2 ^ 70 ≤ a → a < 2 ^ 71 → signed 71 a ≡ negsuc (2 ^ 71 - 1 - a)
signed_high a high fits = grind (arith, nat_tests)

-- a negative number of 71 digits, shifted as a signed one
pub right_negative : (a p : ℕ) → 2 ^ 70 ≤ a → a < 2 ^ 71 → p ≤ 71 → right71 a p ≡ 2 ^ 71 - 1 - (2 ^ 71 - 1 - a) / 2 ^ p
unfolding right71
right_negative a p high fits short = rw (signed_high a high fits) (omega (arith, shr_le (2 ^ 71 - 1 - a) p))

-- the digits as they are kept, with a number times them, are that number times the accumulator
pub digits_times : (digits m : ℕ) → digits % 2 ^ 57 ≡ 0
    → (digits * m % 2 ^ 128 % 2 ^ 57 ≡ 0) × (digits * m % 2 ^ 128 / 2 ^ 57 ≡ digits / 2 ^ 57 * m % 2 ^ 71)
digits_times digits m whole =
    let parts : digits ≡ digits / 2 ^ 57 * 2 ^ 57 = omega (arith, whole) in
    let moved : digits * m ≡ digits / 2 ^ 57 * m * 2 ^ 57 = ap (λ d. d * m) parts ∙ swapped (digits / 2 ^ 57) m in
    rw moved (omega arith, omega arith)
  where
    swapped : (q m : ℕ) → q * 2 ^ 57 * m ≡ q * m * 2 ^ 57
    swapped q m = grind arith
