-- What the post-mortem prints of a store, and how many orders it obeys for that (this project's own).
use Rattle.std.specs.Prelude.{◌≡◌, ℕ, zero, suc, ◌+◌, ◌*◌, ◌/◌, ◌%◌, ◌<◌, Bool, true, false}
use Rattle.std.specs.Prelude.{nat_eq, List, [], ◌∷◌, ◌++◌, length, map, slice_index}
use Rattle.std.specs.Fmt.{decimal}
use Rattle.ed_notation.specs.Spellings.{digit_at}

-- the number in the address of a word
abbrev pub number_in : ℕ → ℕ
number_in word = word % 4096 / 2

-- the decimal digits of a number below 10000 before its units, without leading zeros
abbrev pub digits_before_units : ℕ → List ℕ
digits_before_units n = digit_at 1000 n ++ (digit_at 100 n ++ digit_at 10 n)

-- its decimal digits without leading zeros, as they are printed; 0 is one digit
abbrev pub address_digits : ℕ → List ℕ
address_digits n = digits_before_units n ++ (n % 10 ∷ [])

-- for an address, those digits are its decimal text
abbrev pub AddressDigitsLaw : Type 0
AddressDigitsLaw = (n : ℕ) → n < 2048 → map (λ d. 48 + d) (address_digits n) ≡ decimal n

-- the sum of digits
abbrev pub digit_sum : List ℕ → ℕ
digit_sum [] = 0
digit_sum (d ∷ ds) = d + digit_sum ds

-- whether a word is even
abbrev pub is_even : ℕ → Bool
is_even word = nat_eq (word % 2) 0

-- the code of F for an even word and of D for an odd one
abbrev pub length_code : Bool → ℕ
length_code true = 17
length_code false = 19

-- the additional orders for an even and for an odd word
abbrev pub length_orders : Bool → ℕ
length_orders true = 2
length_orders false = 1

-- the codes of a word: in letter shift its function, in figure shift its number, in letter shift its length, a new line
abbrev pub word_codes : ℕ → List ℕ
word_codes word =
    15 ∷ word / 4096 ∷ 11 ∷ (address_digits (number_in word) ++ (15 ∷ length_code (is_even word) ∷ 18 ∷ 24 ∷ []))

-- the number of orders that print a word; for its digits before the units, 8 times their sum and 4 for each one
-- printed
abbrev pub word_orders : ℕ → ℕ
word_orders word =
    83 + length_orders (is_even word) + 8 * digit_sum (digits_before_units (number_in word))
    + 4 * length (digits_before_units (number_in word))

-- the codes of `count` words from location `first` upwards
unfoldable pub printed_codes : List ℕ → ℕ → ℕ → List ℕ
printed_codes words first zero = []
printed_codes words first (suc count) = word_codes (slice_index words first) ++ printed_codes words (first + 1) count

-- the number of orders that print them
unfoldable pub words_orders : List ℕ → ℕ → ℕ → ℕ
words_orders words first zero = 0
words_orders words first (suc count) = word_orders (slice_index words first) + words_orders words (first + 1) count

-- the number of orders from the entry to the stop: those that print the words, and four more
abbrev pub printing_orders : List ℕ → ℕ → ℕ → ℕ
printing_orders words first count = 4 + words_orders words first count
