-- Where an order of a piece reads, writes or jumps to, and what the store then holds.
use Rattle.ed_machine.proofs.Names.{rules, List, set, true≢false, ◌&&◌, ◌-◌, length-set, long_of_halves, get_or, nat_eq}
use Rattle.ed_machine.proofs.Names.{◌%◌, ◌*◌, ◌/◌, ◌^◌, arith, Bool, false, length, nat_lt, refl, sym, true, ℕ, ◌+◌}
use Rattle.ed_machine.proofs.Names.{◌<◌, ◌≡◌, ◌≤◌, read_at, written_cells}
use Rattle.ed_machine.proofs.Kit.Frames.{Frame, Moment, Beside, short, long, all_words, store, some_digits, get_beside}
use Rattle.ed_machine.proofs.Kit.Frames.{set_beside}
use Rattle.ed_machine.proofs.Kit.Window.{get_own, set_own}

-- a location outside the piece
pub record IsOutside {n h : ℕ} (f : Frame n h) (words : List ℕ) (q : ℕ) : Type 0 where
  pub below : q < f.top
  pub beside : Beside words f.base n q

-- a pair of locations outside it, whose sandwich digit is not one of the piece's m
pub record IsPairOutside {n h : ℕ} (f : Frame n h) (words : List ℕ) (digits : List Bool) (m q : ℕ) : Type 0 where
  pub even : q % 2 ≡ 0
  pub below : q + 1 < f.top
  pub low : Beside words f.base n q
  pub high : Beside words f.base n (q + 1)
  pub digit : Beside digits (f.base / 2 + h) m (q / 2)

-- cell j; the long word of the cells j and j + 1, whose sandwich digit is the p-th of the piece's; a location outside;
-- the long word of q and q + 1 outside; and a location anywhere, which can be read and jumped to, and is not written
pub data Place {n h : ℕ} (f : Frame n h) (r : Moment) : Type 0 where
  own : ℕ → Place f r
  pair : (j p : ℕ) → f.base % 2 ≡ 0 → Place f r
  out : (q : ℕ) → IsOutside f r.words q → Place f r
  pair_out : (q : ℕ) → IsPairOutside f r.words r.digits (length r.pairs) q → Place f r
  any : (q : ℕ) → q < f.top → Place f r

-- the store around a piece, and its own words and digits
pub record Held : Type 0 where
  pub words : List ℕ
  pub digits : List Bool
  pub cells : List ℕ
  pub pairs : List Bool

-- a location below 56 is outside a piece above the Initial Orders
pub early : {n h : ℕ} {f : Frame n h} {words : List ℕ} (q : ℕ) → 56 ≤ f.base → q < 56 → length words ≡ 1024
    → IsOutside f words q
early {f = f} q low l all = search rules

module _ {n h : ℕ} (f : Frame n h) (r : Moment) where
  abbrev pub address : Place f r → ℕ
  address (own j) = f.base + j
  address (pair j p e) = f.base + j
  address (out q a) = q
  address (pair_out q a) = q
  address (any q b) = q

  abbrev pub is_pair : Place f r → Bool
  is_pair (own j) = false
  is_pair (pair j p e) = true
  is_pair (out q a) = false
  is_pair (pair_out q a) = true
  is_pair (any q b) = false

  -- whether the cell, or the pair of cells and its digit, is the piece's
  abbrev pub is_there : Place f r → Bool
  is_there (own j) = nat_lt j n
  is_there (pair j p e) = nat_lt (j + 1) n && (nat_eq j (2 * (h + p)) && nat_lt p (length r.pairs))
  is_there (out q a) = true
  is_there (pair_out q a) = true
  is_there (any q b) = true

  abbrev pub is_written : Place f r → Bool
  is_written (any q b) = false
  is_written p = true

  -- the 35 digits there
  abbrev pub value : Place f r → ℕ
  value (own j) = get_or r.cells j 0 * 2 ^ 18
  value (pair j p e) = long_of_halves (get_or r.cells (j + 1) 0) (get_or r.pairs p false) (get_or r.cells j 0)
  value (out q a) = get_or r.words q 0 * 2 ^ 18
  value (pair_out q a) = long_of_halves (get_or r.words (q + 1) 0) (get_or r.digits (q / 2) false) (get_or r.words q 0)
  value (any q b) = get_or (all_words f r) q 0 * 2 ^ 18

  -- the accumulator that holds the number u for this location at its upper end
  abbrev pub at_top : Place f r → ℕ → ℕ
  at_top (own j) u = short u
  at_top (pair j p e) u = long u
  at_top (out q a) u = short u
  at_top (pair_out q a) u = long u
  at_top (any q b) u = short u

  -- which of a short and a long number is written there
  abbrev pub fitting : Place f r → ℕ → ℕ → ℕ
  fitting (own j) s l = s
  fitting (pair j p e) s l = l
  fitting (out q a) s l = s
  fitting (pair_out q a) s l = l
  fitting (any q b) s l = s

  -- the number u after it is written there
  abbrev pub holding : Place f r → ℕ → Held
  holding (own j) u = record { words = r.words; digits = r.digits; cells = set r.cells j u; pairs = r.pairs }
  holding (pair j p e) u = record {
    words = r.words;
    digits = r.digits;
    cells = set (set r.cells j (u % 2 ^ 17)) (j + 1) (u / 2 ^ 18);
    pairs = set r.pairs p (nat_eq (u / 2 ^ 17 % 2) 1);
  }
  holding (out q a) u = record { words = set r.words q u; digits = r.digits; cells = r.cells; pairs = r.pairs }
  holding (pair_out q a) u = record {
    words = set (set r.words q (u % 2 ^ 17)) (q + 1) (u / 2 ^ 18);
    digits = set r.digits (q / 2) (nat_eq (u / 2 ^ 17 % 2) 1);
    cells = r.cells;
    pairs = r.pairs;
  }
  holding (any q b) u = record { words = r.words; digits = r.digits; cells = r.cells; pairs = r.pairs }

  -- the moment with the number written there
  abbrev pub put : Place f r → ℕ → Moment
  put p u = record r {
    words = (holding p u).words;
    digits = (holding p u).digits;
    cells = (holding p u).cells;
    pairs = (holding p u).pairs;
  }

  pub fitting-at_top : (p : Place f r) (a u : ℕ) → a ≡ at_top p u → fitting p (a / 2 ^ 54) (a / 2 ^ 36) ≡ u
  fitting-at_top p a u e = search rules

  -- a pair of the piece, and its location
  record Paired (j p : ℕ) : Type 0 where
    second : j + 1 < n
    pair_is : j ≡ 2 * (h + p)
    digit_is : p < length r.pairs

  paired : (j p : ℕ) (even : f.base % 2 ≡ 0) → is_there (pair j p even) ≡ true → Paired j p
  paired j p even e = search rules

  -- each location that an order names is below the top
  pub address-near : (p : Place f r) → is_there p ≡ true → address p < f.top
  address-near p e = search rules

  pub read_at-value : (p : Place f r) → length r.cells ≡ n → is_there p ≡ true
      → read_at (is_pair p) (store f r) (address p) ≡ value p
  read_at-value p all e = search (rules, get_own, get_beside)

  pub written_cells-put : (p : Place f r) (s l : ℕ) → length r.cells ≡ n → is_there p ≡ true → is_written p ≡ true
      → written_cells (is_pair p) (store f r) (address p) s l ≡ store f (put p (fitting p s l))
  written_cells-put (own j) s l all e w = search (rules, set_own)
  written_cells-put (pair j p even) s l all e w =
      let o = paired j p even e in
      let first : f.base + j - (f.base + j) % 2 ≡ f.base + j = omega (arith, o.pair_is) in
      let second : f.base + j + 1 ≡ f.base + (j + 1) = omega arith in
      let digit : (f.base + j) / 2 ≡ f.base / 2 + h + p = omega (arith, o.pair_is) in
      let b : Bool = nat_eq (l / 2 ^ 17 % 2) 1 in
      let behind : j + 1 < length (set r.cells j (l % 2 ^ 17)) =
      rw (length-set r.cells j (l % 2 ^ 17)) (omega (arith, o.second, all)) in
      let some : 0 < length (set r.pairs p b) = omega (arith, length-set r.pairs p b, o.digit_is) in
      rw (
        some_digits r.digits (f.base / 2 + h) r.pairs (omega (arith, o.digit_is)),
        some_digits r.digits (f.base / 2 + h) (set r.pairs p b) some,
        first,
        second,
        digit,
        set_own 0 r.words f.base r.cells j (l % 2 ^ 17) (omega (arith, o.second, all)),
        set_own 0 r.words f.base (set r.cells j (l % 2 ^ 17)) (j + 1) (l / 2 ^ 18) behind,
        set_own false r.digits (f.base / 2 + h) r.pairs p b o.digit_is,
      ) refl
  written_cells-put (out q a) s l all e w = rw (set_beside 0 r.words f.base r.cells q s (rw all a.beside)) refl
  written_cells-put (pair_out q a) s l all e w = search (rules, set_beside)
  written_cells-put (any q b) s l all e w = absurd (true≢false (sym w))
