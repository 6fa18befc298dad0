-- Decimal numbers as words of a line (this project's own rule).
use Rattle.std.specs.Prelude.{ℕ, ◌+◌, ◌*◌, ◌-◌, ◌&&◌, Bool, Option, Some, None, fold, length, nat_le}
use Rattle.std.specs.Prelude.{option_and_then, if◌then◌else◌}
use Rattle.std.specs.List.{list_all}
use Rattle.ed_words.specs.Texts.{Text}

-- the bytes `0` to `9`
abbrev pub is_digit : ℕ → Bool
is_digit byte = nat_le 48 byte && nat_le byte 57

-- the number that decimal digits spell
abbrev pub value : Text → ℕ
value = fold (λ n byte. 10 * n + (byte - 48)) 0

-- a text of 1 to 9 decimal digits with no sign, as a number; None for any other text
abbrev pub number : Text → Option ℕ
number text =
    if nat_le 1 (length text) && nat_le (length text) 9 && list_all is_digit text then Some (value text) else None

-- the number, if it is from `least` to `most`
abbrev pub in_range : ℕ → ℕ → ℕ → Option ℕ
in_range least most n = if nat_le least n && nat_le n most then Some n else None

-- a text as a number from `least` to `most`
abbrev pub number_within : ℕ → ℕ → Text → Option ℕ
number_within least most text = option_and_then (in_range least most) (number text)
