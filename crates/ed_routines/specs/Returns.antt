-- The state that a call of a routine leaves (Wilkes, Wheeler and Gill 1951).
use Rattle.std.specs.Prelude.{◌≡◌, ◌≢◌, ◌⊎◌, ℕ, ◌+◌, ◌-◌, ◌*◌, ◌%◌, ◌^◌, ◌<◌, ◌≤◌, false, Option, List, [], ◌∷◌, length}
use Rattle.ed_store.specs.Cells.{short_at}
use Rattle.ed_machine.specs.State.{State}
use Rattle.ed_machine.specs.OrderTable.{step}
use Rattle.ed_machine.specs.Steps.{AreObeyed, state_after}
use Rattle.ed_machine.specs.declared.turn.Turn.TheVariants.{NoTape as HasNoTape}
use Rattle.ed_library.specs.Routines.{is_working, place_count}
use Rattle.ed_routines.specs.Standing.{caller}
use Rattle.ed_routines.specs.Digits.{digits_value, digit_rows, after_digits, after_ending}
use Rattle.ed_routines.specs.declared.reading.ReadBack.{ReadBack}
use Rattle.ed_routines.specs.declared.reading.ReadBack.TheVariants.{Back, NoTape}

-- a location that is not a working location of the routine
pub record IsOther (r base i : ℕ) : Type 0 where
  pub other : (i < base) ⊎ ((base + place_count r ≤ i) ⊎ (is_working r (i - base) ≡ false))

-- each word is unchanged, except in the working locations of the routine
pub record Keeps (r base : ℕ) (s t : State) : Type 0 where
  pub words : (i : ℕ) → IsOther r base i → short_at t.store i ≡ short_at s.store i

-- t is the state `count` orders after s, and each of them was obeyed
pub record IsAfter (count : ℕ) (s t : State) : Type 0 where
  pub state_is : t ≡ state_after count s
  pub free : AreObeyed count s

-- the routine has returned: the counter is after the call, the accumulator is clear, these are the rows left and the
-- last printed code, and nothing else has changed but words
abbrev pub Returned : ℕ → List ℕ → Option ℕ → State → State → Type 0
Returned count rows last s t =
    t
    ≡ record s {
      store = record { words = t.store.words; sandwich = s.store.sandwich };
      acc = 0;
      counter = caller s + 2;
      tape = rows;
      last = last;
      orders = s.orders + count;
    }

-- how `read` ends, by the rows after the digit rows
abbrev pub read_by : List ℕ → ℕ → ℕ → ReadBack
read_by [] k at = NoTape (3 + 13 * k)
read_by (row ∷ rows) k at = Back at (11 + 13 * k)

-- how `read` ends
abbrev pub read_back : State → ReadBack
read_back s = read_by (after_digits s.tape) (length (digit_rows s.tape)) (caller s + 2)

-- the number of orders that it takes
abbrev pub orders_taken : ReadBack → ℕ
orders_taken (Back at orders) = orders
orders_taken (NoTape orders) = orders

-- each word is unchanged, except in the working locations of the routine and at h
pub record KeepsBut (h r base : ℕ) (s t : State) : Type 0 where
  pub words : (i : ℕ) → i ≢ h → IsOther r base i → short_at t.store i ≡ short_at s.store i

-- `read` has read digit rows and an ending row, and their number is at h, modulo 2^17
pub record HasRead (h : ℕ) (s t : State) : Type 0 where
  pub number : short_at t.store h ≡ digits_value (digit_rows s.tape) % 2 ^ 17
  pub returned : Returned (11 + 13 * length (digit_rows s.tape)) (after_ending (after_digits s.tape)) s.last s t

-- `read` waits for a row after the digit rows, but the tape has ended, and the word at h is unchanged
pub record Waits (base h : ℕ) (s t : State) : Type 0 where
  pub blocked : (step t).turn ≡ HasNoTape
  pub number : short_at t.store h ≡ short_at s.store h
  pub is : t
      ≡ record s {
        store = record { words = t.store.words; sandwich = s.store.sandwich };
        acc = 0;
        counter = base + 3;
        tape = [];
        orders = s.orders + (3 + 13 * length (digit_rows s.tape));
      }

-- what `read` has done, by the rows after the digit rows
abbrev pub ReadLeaves : List ℕ → ℕ → ℕ → State → State → Type 0
ReadLeaves [] base h s t = Waits base h s t
ReadLeaves (row ∷ rows) base h s t = HasRead h s t
