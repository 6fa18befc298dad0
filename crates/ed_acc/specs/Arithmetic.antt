-- The arithmetic of the accumulator, on whole numbers modulo 2^71 (Wilkes, Wheeler and Gill 1951). An accumulator is a
-- number below 2^71, in units of 2^-70. What an order adds to it is given in the same units.
use Rattle.std.specs.Prelude.{ℕ, zero, suc, ◌+◌, ◌*◌, ◌/◌, ◌%◌, ◌^◌, ℤ, pos, ◌+ℤ◌, ◌-ℤ◌, ◌*ℤ◌, unsigned_abs}
use Rattle.std.specs.Int.{int_div_euclid, int_rem_euclid}
use Rattle.ed_words.specs.Signed.{signed}

-- a whole number modulo 2^71; the remainder of a negative number is not negative either
abbrev pub modulo71 : ℤ → ℕ
modulo71 z = unsigned_abs (int_rem_euclid z (pos (2 ^ 71)))

-- the accumulator with a number added
unfoldable pub plus71 : ℕ → ℕ → ℕ
plus71 acc n = (acc + n) % 2 ^ 71

-- the accumulator with a number subtracted
unfoldable pub minus71 : ℕ → ℕ → ℕ
minus71 acc n = modulo71 (pos acc -ℤ pos n)

-- four times the product of two long words, each read as a signed number
abbrev pub product : ℕ → ℕ → ℤ
product m x = pos 4 *ℤ (signed 35 m *ℤ signed 35 x)

-- the accumulator with that product added
unfoldable pub plus_product : ℕ → ℕ → ℕ → ℕ
plus_product acc m x = modulo71 (pos acc +ℤ product m x)

-- the accumulator with that product subtracted
unfoldable pub minus_product : ℕ → ℕ → ℕ → ℕ
minus_product acc m x = modulo71 (pos acc -ℤ product m x)

-- the sum of 2^i over all i below k at which both numbers have the digit 1
unfoldable pub common : ℕ → ℕ → ℕ → ℕ
common zero m x = 0
common (suc k) m x = common k m x + 2 ^ k * (m / 2 ^ k % 2 * (x / 2 ^ k % 2))

-- the accumulator with the digits that two long words have in common added
unfoldable pub plus_common : ℕ → ℕ → ℕ → ℕ
plus_common acc m x = (acc + 2 ^ 36 * common 35 m x) % 2 ^ 71

-- the accumulator shifted p places to the left; digits shifted out at the top are lost
unfoldable pub left71 : ℕ → ℕ → ℕ
left71 acc p = (acc * 2 ^ p) % 2 ^ 71

-- the accumulator, read as a signed number, shifted p places to the right: the quotient by 2^p, rounded down
unfoldable pub right71 : ℕ → ℕ → ℕ
right71 acc p = modulo71 (int_div_euclid (signed 71 acc) (pos (2 ^ p)))
