-- How far the shift orders shift.
use Rattle.ed_orders.proofs.Kit.{ap, arith, Bool, false, nat_lt, Option, refl, Some, true, ℕ, ◌+◌, ◌<◌, ◌≡◌, ◌≤◌}
use Rattle.ed_orders.proofs.Kit.{trailing_zeros, w32, from_below, kind_of_function, places, Kind, L, R}
use Rattle.std.proofs.Common.{zero, suc, ◌-◌, ◌/◌, ◌%◌, ◌^◌, add-one, ◌||◌, not}
use Rattle.std.proofs.lemmas.Bool.Decides.{nat_tests}
use Rattle.std.proofs.lemmas.Nat.{mod-pow-add}
use Rattle.std.proofs.lemmas.Nat.Bits.{bit_at-trailing_zeros}
use Rattle.ed_words.specs.Words.{function_of}
use Rattle.ed_orders.specs.Places.{IsPlaces}
use lib.Count.{count_trailing_zeros, under}

-- the places of a number that isn't 0 are those that the law describes
pub places_are : (w : ℕ) → 0 < w → w < 2 ^ 32 → IsPlaces w (places w)
unfolding places
places_are w some fits =
    by_zeros (trailing_zeros w32 w) (bit_at-trailing_zeros w32 w some fits).1 (bit_at-trailing_zeros w32 w some fits).2
  where
    by_zeros : (t : ℕ) → w / 2 ^ t % 2 ≡ 1 → ((i : ℕ) → i < t → w / 2 ^ i % 2 ≡ 0) → IsPlaces w (t + 1)
    by_zeros t odd least = let e : t + 1 - 1 ≡ t = omega arith in record { odd = rw e odd; least = rw e least }

-- the last digit 1 of a number is among the lowest j digits if any of these is 1
zeros_within : (k j n : ℕ) → 0 < n % 2 ^ j → j ≤ k → count_trailing_zeros k n < j
unfolding count_trailing_zeros
zeros_within zero zero n some h = absurd (omega arith)
zeros_within zero (suc j) n some h = absurd (omega arith)
zeros_within (suc k) zero n some h = absurd (omega arith)
zeros_within (suc k) (suc j) n some h =
    under_below (n % 2) (count_trailing_zeros k (n / 2)) j
    (λ e. zeros_within k j (n / 2) (halved n j some e) (omega arith))
  where
    under_below : (d t j : ℕ) → (d ≡ 0 → t < j) → under d t < suc j
    under_below zero t j h = omega (arith, h refl)
    under_below (suc d) t j h = omega arith

    halved : (n j : ℕ) → 0 < n % 2 ^ suc j → n % 2 ≡ 0 → 0 < n / 2 % 2 ^ j
    halved n j some e = let p = rw add-one at (mod-pow-add n j 1) in omega arith

-- so the places are at most j
pub places_within : (w j : ℕ) → 0 < w % 2 ^ j → j ≤ 32 → places w ≤ j
unfolding places
places_within w j some h = omega (arith, zeros_within 32 j w some h)

-- the orders that shift
abbrev is_shift : Option Kind → Bool
is_shift (Some R) = true
is_shift (Some L) = true
is_shift _ = false

-- the functions of the orders that shift, 4 and 25, have a digit 1 among their lowest three
shift_function : (f : ℕ) → f < 32 → is_shift (kind_of_function f) ≡ true → 0 < f % 8
shift_function f below h =
    meaning (is_shift (kind_of_function f)) h
    (from_below (λ k. not (is_shift (kind_of_function k)) || nat_lt 0 (k % 8)) 32 f refl below)
  where
    meaning : (b : Bool) → b ≡ true → (not b || nat_lt 0 (f % 8)) ≡ true → 0 < f % 8
    meaning b h t = grind (arith, nat_tests)

shift_places : (w : ℕ) → w < 2 ^ 17 → is_shift (kind_of_function (function_of w)) ≡ true → places w ≤ 15
shift_places w fits h =
    let some = shift_function (function_of w) (omega arith) h in places_within w 15 (omega arith) (omega arith)

-- an order R shifts by at most 15 places
pub right_places : (w : ℕ) → w < 2 ^ 17 → kind_of_function (function_of w) ≡ Some R → places w ≤ 15
right_places w fits h = shift_places w fits (ap is_shift h)

-- an order L shifts by at most 15 places (in fact at most 13)
pub left_places : (w : ℕ) → w < 2 ^ 17 → kind_of_function (function_of w) ≡ Some L → places w ≤ 15
left_places w fits h = shift_places w fits (ap is_shift h)
