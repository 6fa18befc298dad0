-- A step leads from a state within its bounds to another.
use Rattle.ed_machine.proofs.Names.{lit<, pos, set, List, suc, zero, address_of, is_long, length-set, locations}
use Rattle.ed_machine.proofs.Names.{long_of_halves, left71, minus71, written_cells, ◌+◌, ◌∙◌, false, true, L, R, X, Y, Z}
use Rattle.ed_machine.proofs.Names.{minus_product, plus71, plus_common, plus_product, right71, IsStore, get_or, ◌*◌}
use Rattle.ed_machine.proofs.Names.{◌/◌, ◌^◌, Cells, Kind, E, F, G, I, O, T, U, [], arith, Bool, nat_lt, None, Option}
use Rattle.ed_machine.proofs.Names.{Some, ℕ, ◌<◌, ◌∷◌, after, done_at, jump_order, obey_word, place_of, read_at}
use Rattle.ed_machine.proofs.Names.{row_order, step, written_store, State, progress, state_after}
use Rattle.std.proofs.Common.{nat_le, negsuc, ℤ}
use Rattle.ed_words.specs.Words.{halves_of}
use Rattle.ed_words.proofs.SizeLemmas.{within_fits}
use Rattle.ed_acc.specs.Arithmetic.{modulo71}
use Rattle.ed_store.specs.Cells.{even, odd}
use Rattle.ed_orders.specs.declared.kind.Kind.TheVariants.{A, C, H, N, S, V}
use Rattle.ed_machine.specs.OrderTable.{operand35}
use Rattle.ed_machine.specs.Sound.{IsSound, StaysSound}

-- the arithmetic of the accumulator gives 71 digits
pub modulo71_fits : (z : ℤ) → modulo71 z < 2 ^ 71
modulo71_fits (pos n) = omega arith
modulo71_fits (negsuc n) = omega arith

pub plus71_fits : (a n : ℕ) → plus71 a n < 2 ^ 71
unfolding plus71
plus71_fits a n = omega arith

pub minus71_fits : (a n : ℕ) → minus71 a n < 2 ^ 71
unfolding minus71
minus71_fits a n = modulo71_fits _

pub plus_product_fits : (a m x : ℕ) → plus_product a m x < 2 ^ 71
unfolding plus_product
plus_product_fits a m x = modulo71_fits _

pub minus_product_fits : (a m x : ℕ) → minus_product a m x < 2 ^ 71
unfolding minus_product
minus_product_fits a m x = modulo71_fits _

pub collated_fits : (a m x : ℕ) → plus_common a m x < 2 ^ 71
unfolding plus_common
collated_fits a m x = omega arith

pub left71_fits : (a p : ℕ) → left71 a p < 2 ^ 71
unfolding left71
left71_fits a p = omega arith

pub right71_fits : (a p : ℕ) → right71 a p < 2 ^ 71
unfolding right71
right71_fits a p = modulo71_fits _

-- what is written into a store, and read from it
set_fits : (xs : List ℕ) (p v i m : ℕ) → 0 < m → ((j : ℕ) → get_or xs j 0 < m) → v < m → get_or (set xs p v) i 0 < m
set_fits [] p v i m z h hv = z
set_fits (x ∷ xs) zero v zero m z h hv = hv
set_fits (x ∷ xs) zero v (suc i) m z h hv = h (suc i)
set_fits (x ∷ xs) (suc p) v zero m z h hv = h 0
set_fits (x ∷ xs) (suc p) v (suc i) m z h hv = set_fits xs p v i m z (λ j. h (suc j)) hv

written_fits : (l : Bool) (c : Cells) (p short long : ℕ) → IsStore c → short < 2 ^ 17 → long < 2 ^ 35
    → IsStore (written_cells l c p short long)
written_fits false c p short long h s d = record {
  words_are = length-set c.words p short ∙ h.words_are;
  digits_are = h.digits_are;
  fits = λ i. set_fits c.words p short i (2 ^ 17) (lit< tt) h.fits s;
}
written_fits true c p short long h s d =
    let first = set c.words (even p) (halves_of long).even in
    record {
      words_are = length-set first (odd p) (halves_of long).odd ∙ length-set c.words (even p) (halves_of long).even
          ∙ h.words_are;
      digits_are = length-set c.sandwich (p / 2) (halves_of long).sandwich ∙ h.digits_are;
      fits = λ i.
          set_fits first (odd p) (halves_of long).odd i (2 ^ 17) (lit< tt)
          (λ j. set_fits c.words (even p) (halves_of long).even j (2 ^ 17) (lit< tt) h.fits (omega arith))
          (omega arith);
    }

pub joined_fits : (o e : ℕ) (d : Bool) → o < 2 ^ 17 → e < 2 ^ 17 → long_of_halves o d e < 2 ^ 35
joined_fits o e true h g = omega arith
joined_fits o e false h g = omega arith

read_fits : (l : Bool) (c : Cells) (p : ℕ) → IsStore c → read_at l c p < 2 ^ 35
read_fits true c p h = joined_fits _ _ _ (h.fits (odd p)) (h.fits (even p))
read_fits false c p h = let x = h.fits p in omega arith

module _ (s : State) (h : IsSound s) where
  -- a state with one part changed within its bounds
  with_acc : (a : ℕ) → a < 2 ^ 71 → IsSound (record s { acc = a })
  with_acc a fits = record {
    store = h.store;
    acc = fits;
    multiplier = h.multiplier;
    counter = h.counter;
    tape = h.tape;
    last = h.last;
  }

  with_store : (c : Cells) → IsStore c → IsSound (record s { store = c })
  with_store c is = record {
    store = is;
    acc = h.acc;
    multiplier = h.multiplier;
    counter = h.counter;
    tape = h.tape;
    last = h.last;
  }

  with_multiplier : (m : ℕ) → m < 2 ^ 35 → IsSound (record s { multiplier = m })
  with_multiplier m fits =
      record { store = h.store; acc = h.acc; multiplier = fits; counter = h.counter; tape = h.tape; last = h.last }

  with_last : (code : ℕ) → code < 32 → IsSound (record s { last = Some code })
  with_last code fits =
      record {
        store = h.store;
        acc = h.acc;
        multiplier = h.multiplier;
        counter = h.counter;
        tape = h.tape;
        last = fits;
      }

  with_tape : (rows : List ℕ) → ((i : ℕ) → get_or rows i 0 < 32) → IsSound (record s { tape = rows })
  with_tape rows fit = record {
    store = h.store;
    acc = h.acc;
    multiplier = h.multiplier;
    counter = h.counter;
    tape = fit;
    last = h.last;
  }

  -- one more order counted, with the counter at a location or at the next
  done : (n : ℕ) → n < locations s.size → IsSound (done_at n s)
  done n below = record {
    store = h.store;
    acc = h.acc;
    multiplier = h.multiplier;
    counter = below;
    tape = h.tape;
    last = h.last;
  }

  went_on : IsSound (done_at (after s) s)
  went_on = done (after s) (within_fits s.size (s.counter + 1))

  jumped_on : (b : Bool) (w : ℕ) → IsSound (jump_order b (place_of s w) s).state
  jumped_on true w = done (place_of s w) (within_fits s.size (address_of w))
  jumped_on false w = went_on

  -- a word written, a word read, a row taken
  wrote : (w short long : ℕ) → short < 2 ^ 17 → long < 2 ^ 35
      → IsSound (record s { store = written_store w s short long })
  wrote w short long fits fit =
      with_store _ (written_fits (is_long w) s.store (place_of s w) short long h.store fits fit)

  read : (w : ℕ) → operand35 w s < 2 ^ 35
  read w = read_fits (is_long w) s.store (place_of s w) h.store

top_written : (s : State) (w : ℕ) → IsSound s
    → IsSound (record s { store = written_store w s (s.acc / 2 ^ 54) (s.acc / 2 ^ 36) })
top_written s w h = let a = h.acc in wrote s h w _ _ (omega arith) (omega arith)

row_taken : (rows : List ℕ) (w : ℕ) (s : State) → IsSound s → ((i : ℕ) → get_or rows i 0 < 32)
    → IsSound (row_order rows w s).state
row_taken [] w s h fit = h
row_taken (row ∷ rows) w s h fit =
    let a : row < 32 = fit 0 in
    let stored = wrote s h w row (row * 2 ^ 18) (omega arith) (omega arith) in
    let taken = with_tape _ stored rows (λ i. fit (suc i)) in went_on _ taken

obeyed : (k : Option Kind) (w : ℕ) (s : State) → IsSound s → IsSound (obey_word k w s).state
obeyed (Some A) w s h = went_on _ (with_acc s h _ (plus71_fits _ _))
obeyed (Some S) w s h = went_on _ (with_acc s h _ (minus71_fits _ _))
obeyed (Some H) w s h = went_on _ (with_multiplier s h _ (read s h w))
obeyed (Some V) w s h = went_on _ (with_acc s h _ (plus_product_fits _ _ _))
obeyed (Some N) w s h = went_on _ (with_acc s h _ (minus_product_fits _ _ _))
obeyed (Some T) w s h = went_on _ (with_acc _ (top_written s w h) 0 (lit< tt))
obeyed (Some U) w s h = went_on _ (top_written s w h)
obeyed (Some C) w s h = went_on _ (with_acc s h _ (collated_fits _ _ _))
obeyed (Some R) w s h = went_on _ (with_acc s h _ (right71_fits _ _))
obeyed (Some L) w s h = went_on _ (with_acc s h _ (left71_fits _ _))
obeyed (Some E) w s h = jumped_on s h (nat_lt s.acc (2 ^ 70)) w
obeyed (Some G) w s h = jumped_on s h (nat_le (2 ^ 70) s.acc) w
obeyed (Some I) w s h = row_taken s.tape w s h h.tape
obeyed (Some O) w s h = let a = read s h w in with_last _ (went_on s h) _ (omega arith)
obeyed (Some F) w s h = let a = h.last in went_on _ (wrote s h w _ _ (omega arith) (omega arith))
obeyed (Some X) w s h = went_on s h
obeyed (Some Y) w s h = went_on _ (with_acc s h _ (plus71_fits _ _))
obeyed (Some Z) w s h = went_on s h
obeyed None w s h = h

-- an order keeps the bounds
pub sound_step : (s : State) → IsSound s → IsSound (step s).state
unfolding step
sound_step s h = obeyed _ _ s h

-- so do any number of steps
pub sound_after : StaysSound
unfolding progress
sound_after zero s h = h
sound_after (suc k) s h = sound_step (state_after k s) (sound_after k s h)
