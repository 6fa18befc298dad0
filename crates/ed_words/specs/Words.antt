-- Words of 17 and of 35 binary digits, and the fields of an order word (Wilkes, Wheeler and Gill 1951).
use Rattle.std.specs.Prelude.{ℕ, ◌+◌, ◌*◌, ◌/◌, ◌%◌, ◌^◌, Bool, true, false, nat_eq}
use Rattle.ed_words.specs.declared.order.Order.{Order}
use Rattle.ed_words.specs.declared.long.Halves.{Halves}

-- a binary digit as a number
abbrev pub digit : Bool → ℕ
digit true = 1
digit false = 0

-- a word's function: its five most significant digits
abbrev pub function_of : ℕ → ℕ
function_of w = w / 4096

-- whether a word's spare digit is 1; only a shift order uses that digit
abbrev pub is_spare : ℕ → Bool
is_spare w = nat_eq (w / 2048 % 2) 1

-- a word's address, before it is taken modulo the size of the store
abbrev pub address_of : ℕ → ℕ
address_of w = w / 2 % 1024

-- whether a word's length digit is 1; it is written D if it is 1 and F if it is 0
abbrev pub is_long : ℕ → Bool
is_long w = nat_eq (w % 2) 1

-- the four fields of a word
abbrev pub order_of : ℕ → Order
order_of w = record { function = function_of w; spare = is_spare w; address = address_of w; length = is_long w }

-- the word of four fields
abbrev pub word_of : Order → ℕ
word_of o = 4096 * o.function + 2048 * digit o.spare + 2 * o.address + digit o.length

-- the long word of an odd half, a sandwich digit and an even half
abbrev pub long_of_halves : ℕ → Bool → ℕ → ℕ
long_of_halves odd sandwich even = odd * 2 ^ 18 + digit sandwich * 2 ^ 17 + even

-- the long word of three parts
abbrev pub long_of : Halves → ℕ
long_of h = long_of_halves h.odd h.sandwich h.even

-- the three parts of a long word
abbrev pub halves_of : ℕ → Halves
halves_of n = record { odd = n / 2 ^ 18; sandwich = nat_eq (n / 2 ^ 17 % 2) 1; even = n % 2 ^ 17 }
