-- What `divide` does: it divides a number of 32 binary digits, whose halves are in two words, by a third word (this
-- project's own rule).
use Rattle.std.specs.Prelude.{◌≡◌, ◌≢◌, ◌⊎◌, ℕ, zero, suc, ◌+◌, ◌-◌, ◌*◌, ◌/◌}
use Rattle.std.specs.Prelude.{◌%◌, ◌<◌, ◌≤◌, false, List, [], ◌∷◌, codes}
use Rattle.std.specs.Prelude.{slice_index_or}
use Rattle.ed_store.specs.Cells.{short_at}
use Rattle.ed_machine.specs.State.{State}
use Rattle.ed_routines.specs.Catalogue.{routine_named}
use Rattle.ed_routines.specs.Standing.{IsOutside, caller}
use Rattle.ed_routines.specs.Returns.{IsOther}

-- the routine `divide`
abbrev pub divide : ℕ
divide = routine_named (codes "divide")

-- the parameters with H, N and M the locations of the high word, the low word and the divisor
abbrev pub with_hnm : ℕ → ℕ → ℕ → List ℕ
with_hnm high low by = 2 * high ∷ 2 * low ∷ 2 * by ∷ 0 ∷ 0 ∷ 0 ∷ []

-- the number whose halves are in these two locations
abbrev pub dividend : ℕ → ℕ → State → ℕ
dividend high low s = 65536 * short_at s.store high + short_at s.store low

-- how many of the last k binary digits of a number are 1
unfoldable pub ones : ℕ → ℕ → ℕ
ones zero q = 0
ones (suc k) q = q % 2 + ones k (q / 2)

-- the number of orders that `divide` takes for a quotient
abbrev pub divide_orders : ℕ → ℕ
divide_orders q = 212 - ones 16 q

-- three locations outside the routine: a divisor of 1 to 32767, a high word below it, and a low word of 16 digits
pub record IsDivision (base high low by : ℕ) (s : State) : Type 0 where
  pub high_outside : IsOutside divide base high s
  pub low_outside : IsOutside divide base low s
  pub by_outside : IsOutside divide base by s
  pub high_low : high ≢ low
  pub high_by : high ≢ by
  pub low_by : low ≢ by
  pub positive : 1 ≤ short_at s.store by
  pub divisor : short_at s.store by ≤ 32767
  pub less : short_at s.store high < short_at s.store by
  pub small : short_at s.store low < 65536

-- a pair of locations whose sandwich digit `divide` does not change: not that of its words 36 and 37 or 38 and 39
pub record IsOtherPair (base pair : ℕ) : Type 0 where
  pub other : (pair < base / 2 + 18) ⊎ (base / 2 + 20 ≤ pair)

-- the quotient is in the low location and the remainder in the high one; the counter is after the call, the accumulator
-- is clear, and the orders are counted; otherwise only words in working locations have changed, and sandwich digits of
-- pairs of these
pub record HasDivided (base high low by : ℕ) (s t : State) : Type 0 where
  pub quotient : short_at t.store low ≡ dividend high low s / short_at s.store by
  pub remainder : short_at t.store high ≡ dividend high low s % short_at s.store by
  pub is : t
      ≡ record s {
        store = t.store;
        acc = 0;
        counter = caller s + 2;
        orders = s.orders + divide_orders (dividend high low s / short_at s.store by);
      }
  pub words : (i : ℕ) → i ≢ high → i ≢ low → IsOther divide base i → short_at t.store i ≡ short_at s.store i
  pub digits : (pair : ℕ) → IsOtherPair base pair
      → slice_index_or t.store.sandwich pair false ≡ slice_index_or s.store.sandwich pair false
