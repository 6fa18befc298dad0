-- The 32 codes of the tape and the bytes that spell them (Wilkes, Wheeler and Gill 1951; the signs `# * . @ ! &` for
-- π, erase, blank, θ, φ and Δ are this project's own).
use Rattle.std.specs.Prelude.{ℕ, ◌+◌, ◌-◌, ◌==◌, ◌&&◌, Bool, List, Option, Some}
use Rattle.std.specs.Prelude.{codes, nat_le, nat_lt, position, slice_index, if◌then◌else◌}

-- the letters and signs of the codes 0 to 31
abbrev pub letters : List ℕ
letters = codes "PQWERTYUIOJ#SZK*.F@D!HNM&LXGABCV"

-- the row that a byte spells: a digit its number, a letter or sign its index among the 32
abbrev pub row_of : ℕ → Option ℕ
row_of byte = if nat_le 48 byte && nat_le byte 57 then Some (byte - 48) else position (λ l. l == byte) letters

-- the byte of a code: its digit if a digit is wanted and the code is below 10, else its letter or sign
abbrev pub byte_of : ℕ → Bool → ℕ
byte_of code as_digit = if as_digit && nat_lt code 10 then 48 + code else slice_index letters code
