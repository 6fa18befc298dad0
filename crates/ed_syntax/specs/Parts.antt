-- The bytes, words and numbers of the source language (this project's own rule).
use Rattle.std.specs.Prelude.{ℕ, ◌^◌, ◌==◌, ◌&&◌, ◌||◌, Bool, true, false, ℤ, pos, neg_ℤ, unsigned_abs}
use Rattle.std.specs.Prelude.{List, [], ◌∷◌, codes, nat_le, if◌then◌else◌, Option, Some, None}
use Rattle.std.specs.Int.{int_rem_euclid}
use Rattle.std.specs.List.{list_all, list_any}
use Rattle.ed_codes.specs.Spelling.{row_of}
use Rattle.arrayvec.specs.ArrayVec.{ArrayVec}
use Rattle.ed_words.specs.Texts.{Text}
use Rattle.ed_words.specs.Decimals.{is_digit}
use Rattle.ed_lines.specs.Names.{is_run_byte}

-- ---- bytes and parts

-- a tab, or a byte from 32 to 126
abbrev pub is_line_byte : ℕ → Bool
is_line_byte b = b == 9 || (nat_le 32 b && nat_le b 126)

-- a run of lower-case letters, digits and `_`, which is a name, a number or a keyword; any other byte, as a function, a
-- letter or a sign; the bytes between two quotes
pub data LinePart : Type 0 where
  run : Text → LinePart
  sign : ℕ → LinePart
  quoted : Text → LinePart

-- a blank or a tab
abbrev pub is_blank : ℕ → Bool
is_blank b = b == 32 || b == 9

-- whether a run begins here
abbrev pub begins_run : Text → Bool
begins_run [] = false
begins_run (b ∷ bs) = is_run_byte b

-- whether a quote (34) is among the bytes
abbrev pub has_quote : Text → Bool
has_quote bytes = list_any (λ b. b == 34) bytes

-- ---- numbers

-- a number: one or more decimal digits
abbrev pub is_number : Text → Bool
is_number [] = false
is_number (b ∷ bs) = is_digit b && list_all is_digit bs

-- a number, or its negative
abbrev pub with_sign : Bool → ℕ → ℤ
with_sign minus n = if minus then neg_ℤ (pos n) else pos n

-- ---- letters

-- a function: an upper-case letter or one of `# * . @ ! &`, which are the letters and signs of the 32 rows
abbrev pub function : ℕ → Option ℕ
function b = if is_digit b then None else row_of b

-- the length: F (70) is short, D (68) is long
abbrev pub length_of : ℕ → Option Bool
length_of b = if b == 70 then Some false else if b == 68 then Some true else None

-- the letter of a setting, as its code
abbrev pub setting_letter : ℕ → Option ℕ
setting_letter b = if list_any (λ c. c == b) (codes "HNM&LX") then row_of b else None

-- ---- what a form holds

-- an array with these items
abbrev pub array : {A : Type 0} → List A → ArrayVec A
array xs = record { items = xs }

-- a number modulo 2^k; the remainder of a negative number is not negative either
abbrev pub modulo : ℕ → ℤ → ℕ
modulo k z = unsigned_abs (int_rem_euclid z (pos (2 ^ k)))
