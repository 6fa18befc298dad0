-- The accumulator's arithmetic in plain numbers, as the lines of a path have it.
use Rattle.ed_machine.proofs.Names.{rules, lit<, pos, ◌-◌, nat_tests, digit, common, left71, minus71, plus71}
use Rattle.ed_machine.proofs.Names.{plus_common, plus_product, right71, nat_eq, ◌%◌, ◌*◌, ◌/◌, ◌^◌, ap, arith, sym, ℕ}
use Rattle.ed_machine.proofs.Names.{◌+◌, ◌<◌, ◌∙◌, ◌≡◌}
use Rattle.std.proofs.Common.{lit≤}
use Rattle.std.specs.Int.Bits.{bit_and}
use Rattle.std.proofs.Math.Nat.{mod-eq_of_lt}
use Rattle.std.proofs.lemmas.Nat.{shr_le, and_le_l, and_mod, and_comm}
use Rattle.std.proofs.lemmas.Nat.Bits.{and_high_mask, and_pow}
use Rattle.ed_words.specs.Signed.{signed}
use Rattle.ed_acc.proofs.Common.{common_whole}

pub plus71_is : (a x u : ℕ) → (a + x) % 2 ^ 71 ≡ u → plus71 a x ≡ u
unfolding plus71
plus71_is a x u e = e

pub left71_is : (a p u : ℕ) → a * 2 ^ p % 2 ^ 71 ≡ u → left71 a p ≡ u
unfolding left71
left71_is a p u e = e

-- u is what is left of a, if u and x make a
abbrev pub Remains : ℕ → ℕ → ℕ → Type 0
Remains a x u = (u < 2 ^ 71) × ((u + x) % 2 ^ 71 ≡ a)

pub minus71_is : (a x u : ℕ) → Remains a x u → minus71 a x ≡ u
unfolding minus71
minus71_is a x u h = search rules

signed_low : (n x : ℕ) → x < 2 ^ (n - 1) → signed n x ≡ pos x
signed_low n x h = grind (arith, nat_tests)

-- a positive number shifted right
abbrev pub IsQuotient : ℕ → ℕ → ℕ → Type 0
IsQuotient a p u = (a < 2 ^ 70) × (a / 2 ^ p ≡ u)

pub right71_is : (a p u : ℕ) → IsQuotient a p u → right71 a p ≡ u
unfolding right71
right71_is a p u h = let e = h.1 in rw (signed_low 71 a h.0) (omega (arith, shr_le a p))

-- a product of positive numbers, if no digit of it is lost
abbrev pub AddsProduct : ℕ → ℕ → ℕ → ℕ → Type 0
AddsProduct a m x u = (m < 2 ^ 34) × (x < 2 ^ 34) × (u < 2 ^ 71) × (a + 4 * (m * x) ≡ u)

pub plus_product_is : (a m x u : ℕ) → AddsProduct a m x u → plus_product a m x ≡ u
unfolding plus_product
plus_product_is a m x u h = search rules

pub collated_is : (a m x y u : ℕ) → common 35 m x ≡ y → (a + 2 ^ 36 * y) % 2 ^ 71 ≡ u → plus_common a m x ≡ u
unfolding plus_common
collated_is a m x y u e h = rw e h

-- the common digits with 4095 and with 1
pub common_4095 : (x : ℕ) → x < 2 ^ 17 → common 35 (4095 * 2 ^ 18) (x * 2 ^ 18) ≡ x % 4096 * 2 ^ 18
common_4095 x h =
    let low : bit_and (4095 * 2 ^ 18) (x * 2 ^ 18) < 2 ^ 30 = omega (arith, and_le_l (4095 * 2 ^ 18) (x * 2 ^ 18)) in
    let row : x * 2 ^ 18 % 2 ^ 30 ≡ x % 4096 * 2 ^ 18 = omega arith in
    let fits : x % 4096 * 2 ^ 18 < 2 ^ 30 = omega arith in
    sym (common_whole 35 (4095 * 2 ^ 18) (x * 2 ^ 18) (lit< tt))
    ∙ sym (mod-eq_of_lt low)
    ∙ and_mod (4095 * 2 ^ 18) (x * 2 ^ 18) 30
    ∙ ap (bit_and (4095 * 2 ^ 18)) row
    ∙ and_comm (4095 * 2 ^ 18) (x % 4096 * 2 ^ 18)
    ∙ and_high_mask 30 18 (lit≤ tt) (x % 4096 * 2 ^ 18) fits
    ∙ omega arith

pub common_1 : (x : ℕ) → x < 2 ^ 17 → common 35 (1 * 2 ^ 18) (x * 2 ^ 18) ≡ x % 2 * 2 ^ 18
common_1 x h =
    let row : x * 2 ^ 18 / 2 ^ 18 ≡ x = omega arith in
    sym (common_whole 35 (1 * 2 ^ 18) (x * 2 ^ 18) (lit< tt))
    ∙ and_comm (1 * 2 ^ 18) (x * 2 ^ 18)
    ∙ and_pow (x * 2 ^ 18) 18
    ∙ ap (λ n. n % 2 * 2 ^ 18) row

-- a long word by the two halves and the digit that its cells hold
pub sum-parts : (v : ℕ) → v / 2 ^ 18 * 2 ^ 18 + digit (nat_eq (v / 2 ^ 17 % 2) 1) * 2 ^ 17 + v % 2 ^ 17 ≡ v
sum-parts v = search rules
