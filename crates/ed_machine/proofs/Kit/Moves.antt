-- One lemma for each kind of order. A line of a path is a kind, the order's cell, the location that it names and the
-- number that it leaves; `refl`, that the order is there; and the arithmetic of the number.
use Rattle.ed_machine.proofs.Names.{rules, List, unwrap_or, ◌&&◌, common, minus_product, plus_product, right71, ◌%◌}
use Rattle.ed_machine.proofs.Names.{◌*◌, ◌/◌, ◌^◌, Kind, ap, Bool, false, refl, Some, true, ℕ, ◌+◌, ◌<◌, ◌∙◌, ◌∷◌, ◌≡◌}
use Rattle.ed_machine.proofs.Names.{◌≤◌, kind_of_function, row_order, step, Printed, Stopped, Went}
use Rattle.std.proofs.Common.{not}
use Rattle.std.proofs.lemmas.Bool.{lt-ltb, le-ltb, le-leb, lt-leb}
use Rattle.ed_orders.specs.declared.kind.Kind.TheVariants.{A as KindA, S as KindS, H as KindH, V as KindV, N as KindN}
use Rattle.ed_orders.specs.declared.kind.Kind.TheVariants.{T as KindT, U as KindU, C as KindC, R as KindR, L as KindL}
use Rattle.ed_orders.specs.declared.kind.Kind.TheVariants.{E as KindE, G as KindG, I as KindI, O as KindO, F as KindF}
use Rattle.ed_orders.specs.declared.kind.Kind.TheVariants.{X as KindX, Y as KindY, Z as KindZ}
use Rattle.ed_machine.proofs.Kit.Frames.{Frame, Moment, state}
use Rattle.ed_machine.proofs.Kit.Orders.{Does, Stands, Names, Named-at, step-word, by_place, by_word}
use Rattle.ed_machine.proofs.Kit.Places.{Place, address, is_pair, is_written, value, at_top, fitting, fitting-at_top}
use Rattle.ed_machine.proofs.Kit.Places.{put, read_at-value, written_cells-put}
use Rattle.ed_machine.proofs.Kit.Shifts.{IsShift}
use Rattle.ed_machine.proofs.Kit.Sums.{Remains, IsQuotient, AddsProduct, plus71_is, minus71_is, left71_is, right71_is}
use Rattle.ed_machine.proofs.Kit.Sums.{plus_product_is, collated_is}

abbrev pub Moves : {n h : ℕ} → Frame n h → Kind → Moment → Moment → Type 0
Moves f kind r t = Does f kind r Went t

no_both : (b : Bool) → (not b && b) ≡ false
no_both b = search rules

module _ {n h : ℕ} {f : Frame n h} {r : Moment} where
  -- the order that names a location, a location that it writes, a location that it jumps to
  abbrev pub Reads : ℕ → ℕ → Place f r → Type 0
  Reads i g p = Names f r i g p true

  abbrev pub Writes : ℕ → ℕ → Place f r → Type 0
  Writes i g p = Names f r i g p (is_written f r p)

  abbrev pub Jumps : ℕ → ℕ → Place f r → Type 0
  Jumps i g p = Names f r i g p (not (is_pair f r p))

  -- A, S: the number there is added, subtracted
  pub A : (i : ℕ) (p : Place f r) (u : ℕ) → Reads i 28 p → (r.acc + value f r p * 2 ^ 36) % 2 ^ 71 ≡ u
      → Moves f KindA r (record r { acc = u; counter = f.base + (i + 1) })
  A i p u e sum = by_place i 28 p true e refl refl (λ o k. search (rules, read_at-value, plus71_is))

  pub S : (i : ℕ) (p : Place f r) (u : ℕ) → Reads i 12 p → Remains r.acc (value f r p * 2 ^ 36) u
      → Moves f KindS r (record r { acc = u; counter = f.base + (i + 1) })
  S i p u e rest = by_place i 12 p true e refl refl (λ o k. search (rules, read_at-value, minus71_is))

  -- H: the multiplier is the number there
  pub H : (i : ℕ) (p : Place f r) → Reads i 21 p → Moves f KindH r (record r {
    multiplier = value f r p;
    counter = f.base + (i + 1);
  })
  H i p e = by_place i 21 p true e refl refl (λ o k. search (rules, read_at-value))

  -- V, N: the product is added, subtracted; V in plain numbers if both are positive
  pub V_signed : (i : ℕ) (p : Place f r) (u : ℕ) → Reads i 31 p → plus_product r.acc r.multiplier (value f r p) ≡ u
      → Moves f KindV r (record r { acc = u; counter = f.base + (i + 1) })
  V_signed i p u e sum = by_place i 31 p true e refl refl (λ o k. search (rules, read_at-value))

  pub V : (i : ℕ) (p : Place f r) (u : ℕ) → Reads i 31 p → AddsProduct r.acc r.multiplier (value f r p) u
      → Moves f KindV r (record r { acc = u; counter = f.base + (i + 1) })
  V i p u e sum = V_signed i p u e (plus_product_is r.acc r.multiplier (value f r p) u sum)

  pub N : (i : ℕ) (p : Place f r) (u : ℕ) → Reads i 22 p → minus_product r.acc r.multiplier (value f r p) ≡ u
      → Moves f KindN r (record r { acc = u; counter = f.base + (i + 1) })
  N i p u e sum = by_place i 22 p true e refl refl (λ o k. search (rules, read_at-value))

  -- C: the digits that the multiplier and the number there have in common are added
  pub C : (i : ℕ) (p : Place f r) (y u : ℕ) → Reads i 30 p → common 35 r.multiplier (value f r p) ≡ y
      → (r.acc + 2 ^ 36 * y) % 2 ^ 71 ≡ u
      → Moves f KindC r (record r { acc = u; counter = f.base + (i + 1) })
  C i p y u e both sum = by_place i 30 p true e refl refl (λ o k. search (rules, read_at-value, collated_is))

  -- T, U: the most significant digits of the accumulator are written there, and T clears it. `T` and `U` are for one
  -- that has that number at its upper end and nothing else: both last arguments may be `refl`, and the
  -- number `_`
  pub T_top : (i : ℕ) (p : Place f r) (u : ℕ) → Writes i 5 p → fitting f r p (r.acc / 2 ^ 54) (r.acc / 2 ^ 36) ≡ u
      → Moves f KindT r (record (put f r p u) { acc = 0; counter = f.base + (i + 1) })
  T_top i p u e top = by_place i 5 p _ e refl refl (λ o k. search (rules, written_cells-put))

  pub T : (i : ℕ) (p : Place f r) (u : ℕ) → Writes i 5 p → r.acc ≡ at_top f r p u
      → Moves f KindT r (record (put f r p u) { acc = 0; counter = f.base + (i + 1) })
  T i p u e is = T_top i p u e (fitting-at_top f r p r.acc u is)

  pub U_top : (i : ℕ) (p : Place f r) (u : ℕ) → Writes i 7 p → fitting f r p (r.acc / 2 ^ 54) (r.acc / 2 ^ 36) ≡ u
      → Moves f KindU r (record (put f r p u) { counter = f.base + (i + 1) })
  U_top i p u e top = by_place i 7 p _ e refl refl (λ o k. search (rules, written_cells-put))

  pub U : (i : ℕ) (p : Place f r) (u : ℕ) → Writes i 7 p → r.acc ≡ at_top f r p u
      → Moves f KindU r (record (put f r p u) { counter = f.base + (i + 1) })
  U i p u e is = U_top i p u e (fitting-at_top f r p r.acc u is)

  -- I: a row is read into there
  pub I : (i : ℕ) (p : Place f r) {c : ℕ} {rest : List ℕ} (u : ℕ) → Writes i 8 p → r.tape ≡ c ∷ rest
      → fitting f r p c (c * 2 ^ 18) ≡ u
      → Moves f KindI r (record (put f r p u) { tape = rest; counter = f.base + (i + 1) })
  I i p u e row is = by_place i 8 p _ e refl refl (λ o k.
      ap (λ x. row_order x o.w (state f r k)) row ∙ search (rules, written_cells-put))

  -- F: the last printed code is written there. It is a step and not a line of a path, so that what holds of every path
  -- can be required of a program that the checking routine obeys, which has no F
  pub F : (i : ℕ) (p : Place f r) (u k : ℕ) → Writes i 17 p
      → fitting f r p (unwrap_or r.last 0 * 4096) (unwrap_or r.last 0 * 2 ^ 30) ≡ u
      → step (state f r k) ≡ record {
        state = state f (record (put f r p u) { counter = f.base + (i + 1) }) (k + 1);
        turn = Went;
      }
  F i p u k e is =
      let o = Named-at f r i 17 p (is_written f r p) e refl in
      step-word f r KindF o.w (f.base + (i + 1)) k o.is ∙ search (rules, written_cells-put)

  -- O: the code there is printed
  pub O : (i : ℕ) (p : Place f r) (c : ℕ) → Reads i 9 p → value f r p / 2 ^ 30 ≡ c
      → Does f KindO r (Printed c) (record r { last = Some c; counter = f.base + (i + 1) })
  O i p c e is = by_place i 9 p true e refl refl (λ o k. search (rules, read_at-value))

  -- R, L: the accumulator is shifted; R in plain numbers if it is positive
  pub R_signed : (i : ℕ) {w p : ℕ} → IsShift 4 w p → (u : ℕ) → Stands f r i w true → right71 r.acc p ≡ u
      → Moves f KindR r (record r { acc = u; counter = f.base + (i + 1) })
  R_signed i {w} s u e is = search (rules, by_word)

  pub R : (i : ℕ) {w p : ℕ} → IsShift 4 w p → (u : ℕ) → Stands f r i w true → IsQuotient r.acc p u
      → Moves f KindR r (record r { acc = u; counter = f.base + (i + 1) })
  R i {p = p} s u e is = R_signed i s u e (right71_is r.acc p u is)

  pub L : (i : ℕ) {w p : ℕ} → IsShift 25 w p → (u : ℕ) → Stands f r i w true → r.acc * 2 ^ p % 2 ^ 71 ≡ u
      → Moves f KindL r (record r { acc = u; counter = f.base + (i + 1) })
  L i {w} {p} s u e is = search (rules, by_word, left71_is)

  -- X: nothing; Y: rounding; Z: the stop, which ends a path
  pub X : (i w : ℕ) → Stands f r i w true → w / 4096 ≡ 26 → Moves f KindX r (record r { counter = f.base + (i + 1) })
  X i w e is = by_word i w e (ap kind_of_function is) refl (λ o k. rw o.after refl)

  pub Y : (i w u : ℕ) → Stands f r i w true → w / 4096 ≡ 6 → (r.acc + 2 ^ 35) % 2 ^ 71 ≡ u
      → Moves f KindY r (record r { acc = u; counter = f.base + (i + 1) })
  Y i w u e is sum = search (rules, by_word, plus71_is)

  pub Z : (i w : ℕ) → Stands f r i w true → w / 4096 ≡ 13
      → Does f KindZ r Stopped (record r { counter = f.base + (i + 1) })
  Z i w e is = by_word i w e (ap kind_of_function is) refl (λ o k. rw o.after refl)

  -- E, G: a jump by the accumulator's sign, or none; the order is short
  pub E_jumps : (i : ℕ) (p : Place f r) → Jumps i 3 p → r.acc < 2 ^ 70
      → Moves f KindE r (record r { counter = address f r p })
  E_jumps i p e low = by_place i 3 p _ e refl (no_both (is_pair f r p)) (λ o k. search (rules, lt-ltb))

  pub E_stays : (i : ℕ) (p : Place f r) → Jumps i 3 p → 2 ^ 70 ≤ r.acc
      → Moves f KindE r (record r { counter = f.base + (i + 1) })
  E_stays i p e high = by_place i 3 p _ e refl (no_both (is_pair f r p)) (λ o k. search (rules, le-ltb))

  pub G_jumps : (i : ℕ) (p : Place f r) → Jumps i 27 p → 2 ^ 70 ≤ r.acc
      → Moves f KindG r (record r { counter = address f r p })
  G_jumps i p e high = by_place i 27 p _ e refl (no_both (is_pair f r p)) (λ o k. search (rules, le-leb))

  pub G_stays : (i : ℕ) (p : Place f r) → Jumps i 27 p → r.acc < 2 ^ 70
      → Moves f KindG r (record r { counter = f.base + (i + 1) })
  G_stays i p e low = by_place i 27 p _ e refl (no_both (is_pair f r p)) (λ o k. search (rules, lt-leb))
