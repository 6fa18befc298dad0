-- Decimal digits: how `print` spells a number below 65536, and which number `read` reads (this project's own rule).
use Rattle.std.specs.Prelude.{◌≡◌, ℕ, zero, suc, ◌+◌, ◌*◌, ◌/◌, ◌%◌, ◌<◌, nat_lt}
use Rattle.std.specs.Prelude.{List, [], ◌∷◌, ◌++◌, length, map, if◌then◌else◌}
use Rattle.std.specs.Fmt.{decimal}

-- the number that digits spell when appended to a number, the most significant digit first
abbrev pub value_after : ℕ → List ℕ → ℕ
value_after n [] = n
value_after n (d ∷ ds) = value_after (10 * n + d) ds

-- the number that digits spell
abbrev pub digits_value : List ℕ → ℕ
digits_value ds = value_after 0 ds

-- digits without leading zeros
abbrev pub without_zeros : List ℕ → List ℕ
without_zeros [] = []
without_zeros (zero ∷ ds) = without_zeros ds
without_zeros (suc d ∷ ds) = suc d ∷ ds

-- the digits of a number before its units
abbrev pub before_units : ℕ → List ℕ
before_units n = without_zeros (n / 10000 ∷ n / 1000 % 10 ∷ n / 100 % 10 ∷ n / 10 % 10 ∷ [])

-- the digits of a number; 0 has one digit, 0
abbrev pub digits : ℕ → List ℕ
digits n = before_units n ++ n % 10 ∷ []

-- the sum of digits
abbrev pub sum : List ℕ → ℕ
sum [] = 0
sum (d ∷ ds) = d + sum ds

-- the number of orders that `print` takes for a number
abbrev pub print_orders : ℕ → ℕ
print_orders n = 78 + 8 * sum (before_units n) + 4 * length (before_units n)

-- the digits spell the number, and are those of its decimal text
pub record DigitsSpell (n : ℕ) : Type 0 where
  pub value_is : digits_value (digits n) ≡ n
  pub written : map (λ d. 48 + d) (digits n) ≡ decimal n

-- the same for every number below 65536
abbrev pub DigitsLaw : Type 0
DigitsLaw = (n : ℕ) → n < 65536 → DigitsSpell n

-- the digit rows at the front of a tape
abbrev pub digit_rows : List ℕ → List ℕ
digit_rows [] = []
digit_rows (row ∷ rows) = if nat_lt row 10 then row ∷ digit_rows rows else []

-- the rows of the tape after them
abbrev pub after_digits : List ℕ → List ℕ
after_digits [] = []
after_digits (row ∷ rows) = if nat_lt row 10 then after_digits rows else row ∷ rows

-- the rows after an ending row
abbrev pub after_ending : List ℕ → List ℕ
after_ending [] = []
after_ending (row ∷ rows) = rows
