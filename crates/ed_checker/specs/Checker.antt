-- The checking routine and its guest (Wilkes, Wheeler and Gill 1951 describe a checking routine of this kind; the text
-- is this project's own). The routine takes 66 locations from an even base. It obeys the orders of another program, its
-- guest, one by one. The guest's store, multiplier and tape are the machine's own; the routine keeps the guest's
-- counter and accumulator in its own locations.
use Rattle.std.specs.Prelude.{◌≡◌, ◌⊎◌, ℕ, zero, suc, ◌+◌, ◌-◌, ◌*◌, ◌/◌, ◌%◌, ◌^◌, ◌<◌, ◌≤◌}
use Rattle.std.specs.Prelude.{nat_eq, nat_lt, if◌then◌else◌}
use Rattle.std.specs.Prelude.{Bool, true, false, List, [], ◌∷◌, ◌++◌, Option, Some, None, codes}
use Rattle.ed_words.specs.declared.size.Size.{Size}
use Rattle.ed_words.specs.Sizes.{locations, within}
use Rattle.ed_words.specs.Words.{function_of, address_of, is_long, is_spare}
use Rattle.ed_words.specs.declared.order_words.TheConstants.{A_F}
use Rattle.ed_store.specs.Cells.{short_at, long_at, sandwich_at, even, odd}
use Rattle.ed_orders.specs.Kinds.{kind_of_function}
use Rattle.ed_orders.specs.declared.kind.Kind.{Kind}
use Rattle.ed_orders.specs.declared.kind.Kind.TheVariants.{A, S, H, V, N, T, U, C, R, L, E, G, I, O, F, X, Y, Z}
use Rattle.ed_machine.specs.State.{State}
use Rattle.ed_machine.specs.OrderTable.{step, next_word}
use Rattle.ed_machine.specs.Steps.{codes_of, is_obeyed, state_after}
use Rattle.ed_routines.specs.Catalogue.{routine_named, with_h}
use Rattle.ed_routines.specs.Standing.{HasWord}

-- the number of locations of the routine
abbrev pub length_of_checker : ℕ
length_of_checker = 66

-- a location outside the routine
abbrev pub IsOutsideChecker : ℕ → ℕ → Type 0
IsOutsideChecker base a = (a < base) ⊎ (base + length_of_checker ≤ a)

-- the location, from the base, at which the routine plants the guest's order and obeys it
abbrev pub planting_place : ℕ
planting_place = 40

-- the guest: the machine's store, multiplier, tape and size; its counter is the address in the routine's first word,
-- its accumulator is in three long words; nothing was printed and no order obeyed
abbrev pub guest : ℕ → State → State
guest base s = record s {
  counter = address_of (short_at s.store base);
  acc = long_at s.store (base + 60) * 2 ^ 36 + 4 * long_at s.store (base + 62) + long_at s.store (base + 64) / 2 ^ 32;
  last = None;
  orders = 0;
}

-- two states agree: they differ at most in the words and sandwich digits of the routine's locations, the last printed
-- code and the count of orders
pub record Agree (base : ℕ) (s t : State) : Type 0 where
  pub size : s.size ≡ t.size
  pub words : (a : ℕ) → IsOutsideChecker base a → short_at s.store a ≡ short_at t.store a
  pub digits : (a : ℕ) → IsOutsideChecker base a → sandwich_at s.store a ≡ sandwich_at t.store a
  pub acc : s.acc ≡ t.acc
  pub multiplier : s.multiplier ≡ t.multiplier
  pub counter : s.counter ≡ t.counter
  pub tape : s.tape ≡ t.tape

-- an order uses no location of the routine: its location, or both of its pair if it is long, is outside
abbrev pub AccessesOutside : Bool → ℕ → ℕ → Type 0
AccessesOutside true base p = IsOutsideChecker base (even p) × IsOutsideChecker base (odd p)
AccessesOutside false base p = IsOutsideChecker base p

-- an E or G order that the routine can take for the guest
pub record IsPlainJump (base w : ℕ) (z : Size) : Type 0 where
  pub short : is_long w ≡ false
  pub plain : is_spare w ≡ false
  pub below : address_of w < locations z
  pub outside : IsOutsideChecker base (address_of w)

-- what the routine requires of an order of the guest, by its kind; its location is taken modulo the size
abbrev pub IsAllowedOrder : Option Kind → ℕ → ℕ → Size → Type 0
IsAllowedOrder (Some F) base w z = ⊥
IsAllowedOrder (Some E) base w z = IsPlainJump base w z
IsAllowedOrder (Some G) base w z = IsPlainJump base w z
IsAllowedOrder (Some A) base w z = AccessesOutside (is_long w) base (within z (address_of w))
IsAllowedOrder (Some S) base w z = AccessesOutside (is_long w) base (within z (address_of w))
IsAllowedOrder (Some H) base w z = AccessesOutside (is_long w) base (within z (address_of w))
IsAllowedOrder (Some V) base w z = AccessesOutside (is_long w) base (within z (address_of w))
IsAllowedOrder (Some N) base w z = AccessesOutside (is_long w) base (within z (address_of w))
IsAllowedOrder (Some T) base w z = AccessesOutside (is_long w) base (within z (address_of w))
IsAllowedOrder (Some U) base w z = AccessesOutside (is_long w) base (within z (address_of w))
IsAllowedOrder (Some C) base w z = AccessesOutside (is_long w) base (within z (address_of w))
IsAllowedOrder (Some I) base w z = AccessesOutside (is_long w) base (within z (address_of w))
IsAllowedOrder (Some O) base w z = AccessesOutside (is_long w) base (within z (address_of w))
IsAllowedOrder (Some R) base w z = Unit {0}
IsAllowedOrder (Some L) base w z = Unit {0}
IsAllowedOrder (Some X) base w z = Unit {0}
IsAllowedOrder (Some Y) base w z = Unit {0}
IsAllowedOrder (Some Z) base w z = Unit {0}
IsAllowedOrder None base w z = Unit {0}

-- what the routine requires of the guest for its next order
pub record IsAllowed (base : ℕ) (g : State) : Type 0 where
  pub outside : IsOutsideChecker base g.counter
  pub next : g.counter + 1 < locations g.size
  pub order : IsAllowedOrder (kind_of_function (function_of (next_word g))) base (next_word g) g.size

-- the routine in the catalogue of the library
abbrev pub check : ℕ
check = routine_named (codes "check")

-- each word of the routine is a working one, or is the one of the library's text; its parameter H is in the word of a
-- working location alone
abbrev pub HasImage : ℕ → State → Type 0
HasImage base s = (i : ℕ) → i < length_of_checker → HasWord check (with_h 0) base s i

-- the routine is at a base, at the beginning of a turn
pub record CheckerStands (base : ℕ) (s : State) : Type 0 where
  pub counter : s.counter ≡ base
  pub acc : s.acc ≡ 0
  pub image : HasImage base s
  -- the first word is A c F, without the spare digit
  pub fetch : short_at s.store base ≡ A_F + 2 * address_of (short_at s.store base)
  pub middle : long_at s.store (base + 62) < 2 ^ 34
  -- the lowest long word is 0, 1, 2 or 3 times 2^32
  pub low : long_at s.store (base + 64) % 2 ^ 32 ≡ 0
  pub low_few : long_at s.store (base + 64) < 2 ^ 34

-- the codes that the routine prints for the first q orders of a guest: each order's function, and what the order prints
unfoldable pub checked_codes : State → ℕ → List ℕ
checked_codes g zero = []
checked_codes g (suc q) = checked_codes g q
    ++ (function_of (next_word (state_after q g)) ∷ codes_of (step (state_after q g)).turn)

-- the number of orders that the routine obeys for an order of its guest, by its function and the accumulator: for E (3)
-- and G (27) by whether they jump, for any other order by the number of tests that show that it is neither
abbrev pub orders_by : ℕ → ℕ → ℕ
orders_by function acc =
    if nat_eq function 3 then (if nat_lt acc (2 ^ 70) then 16 else 17)
    else if nat_eq function 27 then (if nat_lt acc (2 ^ 70) then 18 else 16)
    else if nat_lt function 3 then 33
    else if nat_lt function 16 then 35
    else if nat_lt function 27 then 33
    else 35

-- the number of orders of a turn of this guest: at most 35
abbrev pub turn_orders : State → ℕ
turn_orders g = orders_by (function_of (next_word g)) g.acc

-- how many of them save the guest's accumulator and count its order, once it is obeyed
abbrev pub saving_orders : ℕ
saving_orders = 16

-- the number of orders obeyed in a turn; if the guest's order can't be obeyed, neither it nor those that save are
abbrev pub orders_in_turn : State → ℕ
orders_in_turn g = if is_obeyed (step g).turn then turn_orders g else turn_orders g - (1 + saving_orders)

-- the number of orders that the routine obeys for the first q orders of a guest: the sum of their turns
unfoldable pub checked_orders : State → ℕ → ℕ
checked_orders g zero = 0
checked_orders g (suc q) = checked_orders g q + turn_orders (state_after q g)

-- whether a kind is that of Z
abbrev pub is_Z : Option Kind → Bool
is_Z (Some Z) = true
is_Z kind = false
