-- A list of orders as a path: the words that they are by one computation, and their numbers by one proof.
use Rattle.ed_programs.proofs.Kit.{[], ap, arith, Bool, drop, early, false, get_or, inr, length, lt-ltb, List, nat_eq}
use Rattle.ed_programs.proofs.Kit.{nat_lt, on, Option, out, own, Path, prints, refl, set, short, Some, stay, suc, true}
use Rattle.ed_programs.proofs.Kit.{ℕ, ◌%◌, ◌&&◌, any, Frame, Moment, Remains, ◌*◌, ◌++◌, ◌+◌, ◌/◌, ◌<◌, ◌^◌, ◌∷◌, ◌≡◌}
use Rattle.ed_programs.proofs.Kit.{◌≤◌}
use Rattle.ed_machine.proofs.Kit.Places.{Place}
use Rattle.ed_machine.proofs.Kit.Shifts.{IsShift}
use Rattle.ed_machine.proofs.Kit.Moves as moves

-- an order, by the cell that it names and the number that it leaves in the accumulator, or the code that it prints.
-- `low` and `high` name a location below 56 and one after the piece, and `by` a cell that is the piece's by a proof
pub data Order : Type 0 where
  A : ℕ → ℕ → Order
  A_by : ℕ → ℕ → Order
  S : ℕ → ℕ → Order
  T : ℕ → Order
  U : ℕ → Order
  L : {w p : ℕ} → IsShift 25 w p → ℕ → Order
  O : ℕ → ℕ → Order
  O_by : ℕ → ℕ → Order
  O_high : ℕ → ℕ → Order
  E_jumps : ℕ → Order
  E_stays : ℕ → Order
  E_by : ℕ → Order
  G_jumps : ℕ → Order
  G_stays : ℕ → Order
  A_low : ℕ → ℕ → Order
  S_low : ℕ → ℕ → Order
  A_high : ℕ → ℕ → Order
  T_high : ℕ → Order

-- what is known of it: its word, whether its cell is the piece's, and what is asked of the numbers; and what it leaves:
-- the number, the cell of the next order, and the rest
record Effect : Type 1 where
  word : ℕ
  there : Bool
  fine : Type 0
  number : ℕ
  cell : ℕ
  rest : Moment

abbrev code_of : Order → List ℕ
code_of (O j c) = c ∷ []
code_of (O_by j c) = c ∷ []
code_of (O_high q c) = c ∷ []
code_of o = []

abbrev codes_of : List Order → List ℕ
codes_of [] = []
codes_of (o ∷ os) = code_of o ++ codes_of os

sum_is : (v x u : ℕ) → (v + x) % 131072 ≡ u → (short v + x * 2 ^ 18 * 2 ^ 36) % 2 ^ 71 ≡ short u
sum_is v x u e = omega (arith, e)

left_is : (v x u : ℕ) → (u < 131072) × ((u + x) % 131072 ≡ v) → Remains (short v) (x * 2 ^ 18 * 2 ^ 36) (short u)
left_is v x u h = omega (arith, h)

shifted : (v p u : ℕ) → v * 2 ^ p % 131072 ≡ u → short v * 2 ^ p % 2 ^ 71 ≡ short u
shifted v p u e = omega (arith, e)

module _ {n h : ℕ} (f : Frame n h) where
  -- before the order in cell i, with v in the accumulator
  abbrev before : ℕ → ℕ → Moment → Moment
  before i v r = record r { acc = short v; counter = f.base + i }

  module _ (i v : ℕ) (r : Moment) where
    -- an order with the function g that names cell j, or the location q, and changes nothing
    abbrev cell : ℕ → ℕ → Effect
    cell g j = record {
      word = 4096 * g + 2 * (f.base + j);
      there = nat_lt j n;
      fine = Unit {0};
      number = v;
      cell = i + 1;
      rest = r;
    }

    abbrev place : ℕ → ℕ → Effect
    place g q = record (cell g 0) { word = 4096 * g + 2 * q; there = true }

    abbrev IsLow : ℕ → Type 0
    IsLow q = (56 ≤ f.base) × (q < 56) × (length r.words ≡ 1024)

    abbrev IsHigh : ℕ → Type 0
    IsHigh q = (q < f.top) × (f.base + n ≤ q)

    -- the number u is the sum of v and x, or what is left of v
    abbrev IsSum : ℕ → ℕ → Type 0
    IsSum x u = (v + x) % 131072 ≡ u

    abbrev IsLeft : ℕ → ℕ → Type 0
    IsLeft x u = (u < 131072) × ((u + x) % 131072 ≡ v)

    abbrev effect : Order → Effect
    effect (A j u) = record (cell 28 j) { fine = IsSum (get_or r.cells j 0) u; number = u }
    effect (S j u) = record (cell 12 j) { fine = IsLeft (get_or r.cells j 0) u; number = u }
    effect (T j) = record (cell 5 j) { number = 0; rest = record r { cells = set r.cells j v } }
    effect (U j) = record (cell 7 j) { rest = record r { cells = set r.cells j v } }
    effect (L {w = w} {p = p} s u) = record (place 0 0) { word = w; fine = v * 2 ^ p % 131072 ≡ u; number = u }
    effect (O j c) = record (cell 9 j) { fine = get_or r.cells j 0 / 4096 ≡ c; rest = record r { last = Some c } }
    effect (A_by j u) =
        record (place 28 (f.base + j)) { fine = (j < n) × IsSum (get_or r.cells j 0) u; number = u }
    effect (O_by j c) = record (place 9 (f.base + j)) {
      fine = (j < n) × (get_or r.cells j 0 / 4096 ≡ c);
      rest = record r { last = Some c };
    }
    effect (E_jumps j) = record (cell 3 j) { fine = v < 65536; cell = j }
    effect (E_stays j) = record (cell 3 j) { fine = 65536 ≤ v }
    effect (E_by j) = record (place 3 (f.base + j)) { fine = (j < n) × (v < 65536); cell = j }
    effect (G_jumps j) = record (cell 27 j) { fine = 65536 ≤ v; cell = j }
    effect (G_stays j) = record (cell 27 j) { fine = v < 65536 }
    effect (A_low q u) = record (place 28 q) { fine = IsLow q × IsSum (get_or r.words q 0) u; number = u }
    effect (S_low q u) = record (place 12 q) { fine = IsLow q × IsLeft (get_or r.words q 0) u; number = u }
    effect (A_high q u) = record (place 28 q) { fine = IsHigh q × IsSum (get_or r.words q 0) u; number = u }
    effect (O_high q c) = record (place 9 q) {
      fine = IsHigh q × (get_or r.words q 0 / 4096 ≡ c);
      rest = record r { last = Some c };
    }
    effect (T_high q) = record (place 5 q) {
      fine = IsHigh q;
      number = 0;
      rest = record r { words = set r.words q v };
    }

    stands : {x y : ℕ × (Bool × Bool)} → x ≡ y → ◌≡◌ {A = ℕ × (ℕ × (Bool × Bool))} (f.base + i, x) (f.base + i, y)
    stands e = λ k. (f.base + i, e k)

    inside : {x y : ℕ × (Bool × Bool)} (j : ℕ) → x ≡ y → j < n → ◌≡◌ {A = ℕ × (ℕ × (Bool × Bool))}
        (f.base + i, (x.0, (x.1.0, nat_lt j n))) (f.base + i, (y.0, (y.1.0, true)))
    inside j e l = λ k. (f.base + i, ((e k).0, ((e k).1.0, lt-ltb j n l k)))

    abbrev low : (q : ℕ) → IsLow q → Place f (before i v r)
    low q o = out q (early q o.0 o.1 o.2)

    abbrev high : (q : ℕ) → IsHigh q → Place f (before i v r)
    high q o = out q (record { below = o.0; beside = inr o.1 })

    -- one order, and a path after it
    one : (o : Order) {k : ℕ} {cs : List ℕ} {t : Moment}
        → ◌≡◌ {A = ℕ × (Bool × Bool)}
        (get_or r.cells i 0, (nat_lt (i + 1) n && nat_eq (length r.cells) n, (effect o).there))
        ((effect o).word, (true, true))
        → (effect o).fine → Path f k (before (effect o).cell (effect o).number (effect o).rest) cs t
        → Path f (suc k) (before i v r) (code_of o ++ cs) t
    one (A j u) e o p = on (moves.A i (own j) (short u) (stands e) (sum_is v (get_or r.cells j 0) u o)) p
    one (S j u) e o p = on (moves.S i (own j) (short u) (stands e) (left_is v (get_or r.cells j 0) u o)) p
    one (T j) e o p = on (moves.T i (own j) v (stands e) refl) p
    one (U j) e o p = on (moves.U i (own j) v (stands e) refl) p
    one (L {p = p} s u) e o q = on (moves.L i s (short u) (stands e) (shifted v p u o)) q
    one (O j c) e o p = prints (moves.O i (own j) c (stands e) (omega (arith, o))) p
    one (A_by j u) e o p = on (moves.A i (own j) (short u) (inside j e o.0) (sum_is v (get_or r.cells j 0) u o.1)) p
    one (O_by j c) e o p = prints (moves.O i (own j) c (inside j e o.0) (omega (arith, o.1))) p
    one (E_jumps j) e o p = on (moves.E_jumps i (own j) (stands e) (omega (arith, o))) p
    one (E_stays j) e o p = on (moves.E_stays i (own j) (stands e) (omega (arith, o))) p
    one (E_by j) e o p =
        let below : f.base + j < f.top = (let under = f.under in omega (arith, o)) in
        on (moves.E_jumps i (any (f.base + j) below) (stands e) (omega (arith, o))) p
    one (G_jumps j) e o p = on (moves.G_jumps i (own j) (stands e) (omega (arith, o))) p
    one (G_stays j) e o p = on (moves.G_stays i (own j) (stands e) (omega (arith, o))) p
    one (A_low q u) e o p =
        on (moves.A i (low q o.0) (short u) (stands e) (sum_is v (get_or r.words q 0) u o.1)) p
    one (S_low q u) e o p =
        on (moves.S i (low q o.0) (short u) (stands e) (left_is v (get_or r.words q 0) u o.1)) p
    one (A_high q u) e o p =
        on (moves.A i (high q o.0) (short u) (stands e) (sum_is v (get_or r.words q 0) u o.1)) p
    one (O_high q c) e o p = prints (moves.O i (high q o.0) c (stands e) (omega (arith, o.1))) p
    one (T_high q) e o p = on (moves.T i (high q o) v (stands e) refl) p

  -- after a list of orders; the words that are obeyed, and those of the list; and what the numbers have to be
  abbrev after : List Order → ℕ → ℕ → Moment → Moment
  after [] i v r = before i v r
  after (o ∷ os) i v r = let x = effect i v r o in after os x.cell x.number x.rest

  abbrev words_at : List Order → ℕ → ℕ → Moment → List (ℕ × (Bool × Bool))
  words_at [] i v r = []
  words_at (o ∷ os) i v r =
      let x = effect i v r o in
      (get_or r.cells i 0, (nat_lt (i + 1) n && nat_eq (length r.cells) n, x.there))
      ∷ words_at os x.cell x.number x.rest

  abbrev words_of : List Order → ℕ → ℕ → Moment → List (ℕ × (Bool × Bool))
  words_of [] i v r = []
  words_of (o ∷ os) i v r =
      let x = effect i v r o in (x.word, (true, true)) ∷ words_of os x.cell x.number x.rest

  abbrev AreFine : List Order → ℕ → ℕ → Moment → Type 0
  AreFine [] i v r = Unit {0}
  AreFine (o ∷ os) i v r = let x = effect i v r o in x.fine × AreFine os x.cell x.number x.rest

  path_of : (os : List Order) (i v : ℕ) (r : Moment) → words_at os i v r ≡ words_of os i v r → AreFine os i v r
      → Path f (length os) (before i v r) (codes_of os) (after os i v r)
  path_of [] i v r e o = stay
  path_of (x ∷ os) i v r e o =
      let y = effect i v r x in
      one i v r x (ap (λ (ws : List (ℕ × (Bool × Bool))). get_or ws 0 (0, (false, false))) e) o.0
      (path_of os y.cell y.number y.rest (ap (λ (ws : List (ℕ × (Bool × Bool))). drop 1 ws) e) o.1)

-- a moment of the program with these words and cells; its accumulator and its counter are those of the path
abbrev around : List ℕ → List Bool → List ℕ → List Bool → ℕ → List ℕ → Option ℕ → Moment
around ws ds cs ps m t l =
    record { words = ws; digits = ds; cells = cs; pairs = ps; acc = 0; multiplier = m; counter = 0; tape = t; last = l }

-- the orders from cell i on, with v in the accumulator, are these: by their words and by their numbers
pub obeys : {n h : ℕ} {f : Frame n h} {ws : List ℕ} {ds : List Bool} {cs : List ℕ} {ps : List Bool} {m : ℕ}
    {t : List ℕ} {l : Option ℕ} (i v : ℕ) (os : List Order)
    → words_at f os i v (around ws ds cs ps m t l) ≡ words_of f os i v (around ws ds cs ps m t l)
    → AreFine f os i v (around ws ds cs ps m t l)
    → Path f (length os) (before f i v (around ws ds cs ps m t l)) (codes_of os)
    (after f os i v (around ws ds cs ps m t l))
obeys {f = f} i v os = path_of f os i v _
