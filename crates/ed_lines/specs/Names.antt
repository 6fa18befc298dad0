-- The names of the source language (this project's own rule).
use Rattle.std.specs.Prelude.{ℕ, ◌==◌, ◌&&◌, ◌||◌, Bool, false, [], ◌∷◌, length, nat_le}
use Rattle.std.specs.List.{list_all}
use Rattle.ed_words.specs.Texts.{Text}
use Rattle.ed_words.specs.Decimals.{is_digit}

-- a lower-case letter
abbrev pub is_lower : ℕ → Bool
is_lower b = nat_le 97 b && nat_le b 122

-- a byte of a run: a lower-case letter, a digit or `_`
abbrev pub is_run_byte : ℕ → Bool
is_run_byte b = is_lower b || (is_digit b || b == 95)

-- a name: a lower-case letter followed by up to 15 lower-case letters, digits or `_`
abbrev pub is_name : Text → Bool
is_name [] = false
is_name (b ∷ bs) = is_lower b && (nat_le (length bs) 15 && list_all is_run_byte bs)

-- a local name: `_` followed by 1 to 15 of these
abbrev pub is_local_name : Text → Bool
is_local_name [] = false
is_local_name (b ∷ bs) = b == 95 && (nat_le 1 (length bs) && (nat_le (length bs) 15 && list_all is_run_byte bs))

-- what may be a label and be in an operand: a name, or in version 2 a local name
abbrev pub is_place_name : Bool → Text → Bool
is_place_name two r = is_name r || (two && is_local_name r)
