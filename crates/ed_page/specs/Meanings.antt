-- What an order word names, as the page gets it (this project's own rules, over the definitions of orders and words).
use Rattle.std.specs.Prelude.{◌≡◌, ℕ, false, Option, Some, None, if◌then◌else◌, is_some}
use Rattle.ed_words.specs.Signed.{signed}
use Rattle.ed_words.specs.Sizes.{within}
use Rattle.ed_words.specs.Words.{address_of, digit, function_of, is_long}
use Rattle.ed_words.specs.declared.size.Size.{Size}
use Rattle.ed_codes.specs.Spelling.{byte_of}
use Rattle.ed_store.specs.Cells.{even}
use Rattle.ed_orders.specs.Kinds.{kind_of_function}
use Rattle.ed_orders.specs.Places.{places}
use Rattle.ed_orders.specs.declared.kind.Kind.{Kind}
use Rattle.ed_orders.specs.declared.kind.Kind.TheVariants.{R, L}
use Rattle.ed_headline.specs.BothSizes.{names_location}
use Rattle.ed_page.specs.declared.meanings.Meaning.{Meaning}

-- the order that a word is, if it is one
abbrev pub kind_of_word : ℕ → Option Kind
kind_of_word w = kind_of_function (function_of w)

-- the letter of the order that a word is, which the code of its function prints in letter shift, and 0 for no order
abbrev pub letter_shown : ℕ → ℕ
letter_shown w = if is_some (kind_of_word w) then byte_of (function_of w) false else 0

-- whether an order names a location, as a number
abbrev pub names_shown : Option Kind → ℕ
names_shown None = 0
names_shown (Some kind) = digit (names_location kind)

-- how many places an order shifts, and 0 if it is not a shift
abbrev pub shift_shown : Option Kind → ℕ → ℕ
shift_shown (Some R) w = places w
shift_shown (Some L) w = places w
shift_shown kind w = 0

-- what a word means on a machine of a size: its order's letter; whether that names a location, the location in the
-- word's address, and the even location of its pair; its length digit; its shift; and the word as a signed number
pub record IsMeaning (z : Size) (w : ℕ) (m : Meaning) : Type 0 where
  pub letter : m.letter ≡ letter_shown w
  pub names : m.names ≡ names_shown (kind_of_word w)
  pub location : m.location ≡ within z (address_of w)
  pub pair : m.pair ≡ even m.location
  pub long : m.long ≡ digit (is_long w)
  pub shift : m.shift ≡ shift_shown (kind_of_word w) w
  pub number : m.number ≡ signed 17 w
