-- The state of the machine as a piece of code sees it: its own words and sandwich digits as a window on the store,
-- and the registers as plain numbers.
use Rattle.ed_machine.proofs.Names.{rules, List, set, ◌⊎◌, locations, Size, get_or, ◌*◌, ◌/◌, ◌^◌, Cells, [], Bool}
use Rattle.ed_machine.proofs.Names.{false, length, Option, ℕ, ◌+◌, ◌<◌, ◌∷◌, ◌≡◌, ◌≤◌, State}
use Rattle.ed_machine.proofs.Kit.Window.{patched, get_below, set_below, get_above, set_above}

-- the accumulator that holds a short number at its upper end, and a long one
abbrev pub short : ℕ → ℕ
short x = x * 2 ^ 54

abbrev pub long : ℕ → ℕ
long x = x * 2 ^ 36

-- the base of a piece of n cells; h is the first of its pairs whose sandwich digits it changes
pub record Frame (n h : ℕ) : Type 0 where
  pub size : Size
  pub base : ℕ
  -- its orders use only locations below this one
  pub top : ℕ
  pub under : base + n ≤ top
  pub fits : top ≤ locations size

-- what varies: the store around the piece, its own words and sandwich digits, and the registers
pub record Moment : Type 0 where
  pub words : List ℕ
  pub digits : List Bool
  pub cells : List ℕ
  pub pairs : List Bool
  pub acc : ℕ
  pub multiplier : ℕ
  pub counter : ℕ
  pub tape : List ℕ
  pub last : Option ℕ

abbrev pub all_words : {n h : ℕ} → Frame n h → Moment → List ℕ
all_words f r = patched 0 r.words f.base r.cells

-- the sandwich digits with those of the piece's pairs, if it has any
abbrev pub all_digits : List Bool → ℕ → List Bool → List Bool
all_digits ds b [] = ds
all_digits ds b (c ∷ cs) = patched false ds b (c ∷ cs)

abbrev pub store : {n h : ℕ} → Frame n h → Moment → Cells
store {n} {h} f r = record { words = all_words f r; sandwich = all_digits r.digits (f.base / 2 + h) r.pairs }

-- the machine at a moment, after k orders
abbrev pub state : {n h : ℕ} → Frame n h → Moment → ℕ → State
state f r k = record {
  size = f.size;
  store = store f r;
  acc = r.acc;
  multiplier = r.multiplier;
  counter = r.counter;
  tape = r.tape;
  last = r.last;
  orders = k;
}

-- a state is equal to another one with its accumulator, tape, last code and count of orders, if the rest is the same
pub same_state : (s : State) {size : Size} {words : List ℕ} {digits : List Bool} {multiplier counter : ℕ}
    → size ≡ s.size → words ≡ s.store.words → digits ≡ s.store.sandwich → multiplier ≡ s.multiplier
    → counter ≡ s.counter
    → record s {
      size = size;
      store = record { words = words; sandwich = digits };
      multiplier = multiplier;
      counter = counter;
    } ≡ s
same_state s z w d m c = search rules

-- an index in a list outside a window of this many items at a base
abbrev pub Beside : {A : Type 0} → List A → ℕ → ℕ → ℕ → Type 0
Beside xs base count i = ((i < base) × (i < length xs)) ⊎ (base + count ≤ i)

-- the item there, and the list with another one written there
module _ {A : Type 0} (d : A) (xs : List A) (b : ℕ) (cs : List A) (i : ℕ) where
  pub get_beside : Beside xs b (length cs) i → get_or (patched d xs b cs) i d ≡ get_or xs i d
  get_beside at = search (rules, get_below, get_above)

  pub set_beside : (v : A) → Beside xs b (length cs) i → set (patched d xs b cs) i v ≡ patched d (set xs i v) b cs
  set_beside v at = search (rules, set_below, set_above)

pub some_digits : (ds : List Bool) (b : ℕ) (cs : List Bool) → 0 < length cs → all_digits ds b cs ≡ patched false ds b cs
some_digits ds b = search rules
