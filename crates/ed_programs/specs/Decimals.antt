-- The source of `examples/decimals.edsac`, what it prints, and what the decimals of e are.
use Rattle.std.specs.Prelude.{◌≡◌, ℕ, zero, suc, ◌+◌, ◌*◌, ◌/◌, ◌%◌, ◌^◌, ◌≤◌, List, [], ◌∷◌, ◌++◌, codes, filter, map}
use Rattle.std.specs.Prelude.{replicate}
use Rattle.ed_words.specs.Decimals.{is_digit, value}
use Rattle.ed_words.specs.Texts.{Text}
use Rattle.ed_notation.specs.Items.{digits_number}
use Rattle.ed_sources.specs.CallSources.{filled_text}
use Rattle.ed_programs.specs.declared.decimals.TheConstants.{DECIMALS}

-- the whole text
abbrev pub decimals_text : Text
decimals_text = filled_text (map (λ piece. piece.now) DECIMALS) []

-- ---- e is the sum of 1/0!, 1/1!, 1/2! and so on

-- 1 · 2 · .. · k
abbrev pub factorial : ℕ → ℕ
factorial zero = 1
factorial (suc k) = suc k * factorial k

-- k! times the sum from 1/0! to 1/k!
abbrev pub parts : ℕ → ℕ
parts zero = 1
parts (suc k) = suc k * parts k + 1

-- m is the whole part of 10^n e: from some 1/k! on it is that of 10^n times each sum; and each of these is at least
-- 1/shares below m + 1, so that 10^n e is below m + 1 too
pub record IsWholePart (n m : ℕ) : Type 0 where
  pub from : ℕ
  pub each : (k : ℕ) → from ≤ k → 10 ^ n * parts k / factorial k ≡ m
  pub shares : ℕ
  pub some : 1 ≤ shares
  pub below : (k : ℕ) → from ≤ k → 10 ^ n * parts k * shares + factorial k ≤ (m + 1) * factorial k * shares

-- there is one such number
abbrev pub IsOneNumber : Type 0
IsOneNumber = (n a b : ℕ) → IsWholePart n a → IsWholePart n b → a ≡ b

-- ---- the decimals, one by one

-- numerators after a decimal, the carry out of the first, and the sum of all carries
pub record Tenfold : Type 0 where
  pub left : List ℕ
  pub carry : ℕ
  pub units : ℕ

-- x is divided by d, before others that are done
abbrev pub shared : ℕ → ℕ → Tenfold → Tenfold
shared d x t = record { left = x % d ∷ t.left; carry = x / d; units = x / d + t.units }

-- the numerators of the divisor d and of the ones after it, each multiplied by ten and divided by its divisor, with the
-- carry from the one after it
abbrev pub tenfold : ℕ → List ℕ → Tenfold
tenfold d [] = record { left = []; carry = 0; units = 0 }
tenfold d (n ∷ ns) = let t = tenfold (suc d) ns in shared d (10 * n + t.carry) t

-- the first m carries out of the first numerator, whose divisor is 2
abbrev pub carries : ℕ → List ℕ → List ℕ
carries zero ns = []
carries (suc m) ns = let t = tenfold 2 ns in t.carry ∷ carries m t.left

-- if k numerators are 1, whatever k is, then 2 and the first m carries are the sum up to 1/(k + 1)! to m decimals
abbrev pub MethodIsRight : Type 0
MethodIsRight = (k m : ℕ)
    → digits_number 2 (carries m (replicate k 1)) ≡ 10 ^ m * parts (suc k) / factorial (suc k)

-- ---- what is printed, and in how many orders

-- 2 and a point, and the decimals: two lines of five groups of ten
abbrev pub decimals_prints : Text
decimals_prints =
    codes "2." ++ 13 ∷ 10 ∷ codes "7182818284 5904523536 0287471352 6624977572 4709369995"
    ++ 13 ∷ 10 ∷ codes "9574966967 6277240766 3035354759 4571382178 5251664274" ++ 13 ∷ 10 ∷ []

-- the orders from the entry: 8 for each unit of each carry, whose sum is 33276, and 187505 more
abbrev pub decimals_orders : ℕ
decimals_orders = 187505 + 8 * 33276

-- the figures are the carries of 74 numerators, with the divisors from 2 to 75
abbrev pub FiguresAreCarries : Type 0
FiguresAreCarries = value (filter is_digit decimals_prints) ≡ digits_number 2 (carries 100 (replicate 74 1))
