-- The text of an order, as Wilkes, Wheeler and Gill (1951) write one, with two rules of this project's own: the spare
-- digit counts as 1024 in the number, and a number 0 isn't written.
use Rattle.std.specs.Prelude.{ℕ, ◌/◌, ◌%◌, ◌==◌, List, [], ◌∷◌, ◌++◌, codes, decimal, slice_index, if◌then◌else◌}
use Rattle.ed_words.specs.Words.{function_of, is_long}
use Rattle.ed_codes.specs.Spelling.{letters}

-- the number in a word's text: its spare digit and address as one number
abbrev pub text_number : ℕ → ℕ
text_number w = w / 2 % 2048

-- a number in decimal, or no digits for 0
abbrev pub number_text : ℕ → List ℕ
number_text n = if n == 0 then [] else decimal n

-- D for a long order, F for a short one
abbrev pub length_text : ℕ → List ℕ
length_text w = if is_long w then codes "D" else codes "F"

-- the letter or sign of the function, the number, and the length
abbrev pub order_text : ℕ → List ℕ
order_text w = slice_index letters (function_of w) ∷ number_text (text_number w) ++ length_text w
