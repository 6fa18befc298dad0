-- Saving the 71 digits of an accumulator in three long words, and restoring them: the numbers alone.
use Rattle.ed_checker.proofs.Kit.{arith, ℕ, ◌%◌, ◌*◌, ◌+◌, ◌/◌, ◌<◌, ◌^◌, ◌≡◌}

-- the three long words of an accumulator
abbrev pub high_of : ℕ → ℕ
high_of a = a / 2 ^ 36

abbrev pub middle_of : ℕ → ℕ
middle_of a = a % 2 ^ 36 / 4

abbrev pub low_of : ℕ → ℕ
low_of a = a % 4 * 2 ^ 32

-- the accumulator of three long words
abbrev pub whole : ℕ → ℕ → ℕ → ℕ
whole high middle low = high * 2 ^ 36 + 4 * middle + low / 2 ^ 32

-- what was saved is restored
pub whole-saved : (a : ℕ) → whole (high_of a) (middle_of a) (low_of a) ≡ a
whole-saved a = omega arith

pub middle_fits : (a : ℕ) → middle_of a < 2 ^ 34
middle_fits a = omega arith

pub high_fits : (a : ℕ) → a < 2 ^ 71 → high_of a < 2 ^ 35
high_fits a h = omega arith
