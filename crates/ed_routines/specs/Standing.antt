-- A routine of the library is at a base and is called with a clear accumulator from m: the order A m F is in the
-- accumulator, and 2 and 3 hold the words that turn it into the order that returns (Wilkes, Wheeler and Gill 1951).
use Rattle.std.specs.Prelude.{◌≡◌, ◌⊎◌, ℕ, ◌+◌, ◌-◌, ◌*◌, ◌/◌, ◌^◌, ◌<◌, ◌≤◌, false, List}
use Rattle.ed_words.specs.Sizes.{locations}
use Rattle.ed_words.specs.declared.order_words.TheConstants.{A_F}
use Rattle.ed_store.specs.Cells.{short_at}
use Rattle.ed_machine.specs.State.{State}
use Rattle.ed_library.specs.Routines.{is_working, place_count}
use Rattle.ed_library.specs.Images.{image_word}

-- the location of the order that put itself into the accumulator
abbrev pub caller : State → ℕ
caller s = (s.acc / 2 ^ 54 - A_F) / 2

-- the accumulator holds such an order, and the location to which the routine returns is within the size
pub record IsCall (s : State) : Type 0 where
  pub acc : s.acc ≡ (A_F + 2 * caller s) * 2 ^ 54
  pub room : caller s + 3 ≤ locations s.size

-- the word at an offset is a working one, or is the routine's
pub record HasWord (r : ℕ) (parameters : List ℕ) (base : ℕ) (s : State) (i : ℕ) : Type 0 where
  pub has : is_working r i ≡ false → short_at s.store (base + i) ≡ image_word r i base parameters

-- a routine is at a base, called: its words, the constants at 2 and 3, the counter, and the call in the accumulator
pub record IsLoadedAt (r : ℕ) (parameters : List ℕ) (base : ℕ) (s : State) : Type 0 where
  pub low : 56 ≤ base
  pub fits : base + place_count r ≤ locations s.size
  pub counter : s.counter ≡ base
  pub at2 : short_at s.store 2 ≡ 2
  pub at3 : short_at s.store 3 ≡ 28676
  pub image : (i : ℕ) → i < place_count r → HasWord r parameters base s i
  pub call : IsCall s

-- a location outside a routine
pub record IsOutside (r base p : ℕ) (s : State) : Type 0 where
  pub below : p < locations s.size
  pub beside : (p < base) ⊎ (base + place_count r ≤ p)
