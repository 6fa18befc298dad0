-- The digits that two numbers have in common.
use Rattle.std.proofs.Common.{◌≡◌, ℕ, zero, suc, ◌+◌, ◌*◌, ◌/◌, ◌%◌, ◌^◌, ◌<◌, arith, ap, sym, ◌∙◌, bit_and, min}
use Rattle.std.proofs.lemmas.Nat.{and_le_l, mod-pow-add}
use Rattle.std.proofs.lemmas.Nat.Bits.{bit_at_and}
use Rattle.std.proofs.Math.Nat.{mod-eq_of_lt}
use Rattle.ed_acc.specs.Arithmetic.{common}

-- the lesser of two digits is their product
least_is_product : (a b : ℕ) → a < 2 → b < 2 → min a b ≡ a * b
least_is_product zero b h k = omega arith
least_is_product (suc zero) b h k = omega arith
least_is_product (suc (suc a)) b h k = absurd (omega arith)

-- the lowest digits and one more, and the same in another order
one_more : (n k d : ℕ) → n / 2 ^ k % 2 ≡ d → n % 2 ^ k + 2 ^ k * d ≡ n % 2 ^ suc k
one_more n k d digit =
    let e : 1 + k ≡ suc k = omega arith in
    let split : n % 2 ^ suc k ≡ n / 2 ^ k % 2 * 2 ^ k + n % 2 ^ k = rw e at (mod-pow-add n 1 k) in
    rw (split, digit) (omega arith)

-- the common digits below place k are those of std's bitwise `and`
common_is_and : (k m x : ℕ) → common k m x ≡ bit_and m x % 2 ^ k
unfolding common
common_is_and zero m x = omega arith
common_is_and (suc k) m x =
    let digit : bit_and m x / 2 ^ k % 2 ≡ m / 2 ^ k % 2 * (x / 2 ^ k % 2) =
    bit_at_and m x k ∙ least_is_product _ _ (omega arith) (omega arith) in
    ap (λ n. n + 2 ^ k * (m / 2 ^ k % 2 * (x / 2 ^ k % 2))) (common_is_and k m x) ∙ one_more (bit_and m x) k _ digit

-- all of them, for a number of k digits
pub common_whole : (k m x : ℕ) → m < 2 ^ k → bit_and m x ≡ common k m x
common_whole k m x fits =
    let few : bit_and m x < 2 ^ k = omega (arith, and_le_l m x) in sym (common_is_and k m x ∙ mod-eq_of_lt few)
