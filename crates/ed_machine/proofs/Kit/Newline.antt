-- A worked piece: the routine `newline`, five orders and two codes, from its listing to what it does at any base.
use Rattle.ed_machine.proofs.Names.{List, lit<, locations, locations_most, get_or, ◌*◌, [], arith, length, None, Option}
use Rattle.ed_machine.proofs.Names.{refl, Some, sym, ℕ, ◌+◌, ◌<◌, ◌∷◌, ◌≡◌, ◌≤◌, State}
use Rattle.ed_words.specs.declared.order_words.TheConstants.{A_F, E_F, O_F, T_F}
use Rattle.ed_machine.proofs.Kit.Frames.{Frame, Moment, state, short}
use Rattle.ed_machine.proofs.Kit.Leads.{Leads}
use Rattle.ed_machine.proofs.Kit.Moves.{A, T, O, E_jumps}
use Rattle.ed_machine.proofs.Kit.Paths.{Path, stay, on, prints, Leads-path}
use Rattle.ed_machine.proofs.Kit.Places.{early, own, out, any}
use Rattle.ed_machine.proofs.Kit.Standing.{Holds, IsWorking, patched-filled, get_or-patched}
use Rattle.ed_machine.proofs.Kit.Window.{patched}

-- its listing at b: A3F T4θ O5θ O6θ, the order that returns, and the codes of carriage return and line feed
abbrev pub image : ℕ → List (Option ℕ)
image b =
    Some 114694 ∷ Some (T_F + 2 * (b + 4)) ∷ Some (O_F + 2 * (b + 5)) ∷ Some (O_F + 2 * (b + 6)) ∷ None
    ∷ Some 73728 ∷ Some 98304 ∷ []

-- its words; one of them changes
abbrev pub cells : ℕ → ℕ → List ℕ
cells b at4 =
    114694 ∷ (T_F + 2 * (b + 4)) ∷ (O_F + 2 * (b + 5)) ∷ (O_F + 2 * (b + 6)) ∷ at4
    ∷ 73728 ∷ 98304 ∷ []

-- it is at b, and is called from m: the accumulator holds the order A m F. It and the location to which it returns are
-- below a location
pub record IsCalled (s : State) (b m top : ℕ) : Type 0 where
  pub counter : s.counter ≡ b
  pub low : 56 ≤ b
  pub under : b + 7 ≤ top
  pub back : m + 3 ≤ top
  pub fits : top ≤ locations s.size
  pub at3 : get_or s.store.words 3 0 ≡ 28676
  pub holds : Holds (image b) s.store.words b
  pub acc : s.acc ≡ short (A_F + 2 * m)

module _ (s : State) (b m top : ℕ) (o : IsCalled s b m top) (all : length s.store.words ≡ 1024) where
  abbrev f : Frame 7 0
  f = record { size = s.size; base = b; top = top; under = o.under; fits = o.fits }

  abbrev at : ℕ → ℕ → ℕ → Option ℕ → Moment
  at i acc at4 last = record {
    words = s.store.words;
    digits = s.store.sandwich;
    cells = cells b at4;
    pairs = [];
    acc = acc;
    multiplier = s.multiplier;
    counter = b + i;
    tape = s.tape;
    last = last;
  }

  -- the order that returns: E (m + 2) F
  abbrev link : ℕ
  link = E_F + 2 * (m + 2)

  path : (at4 : ℕ) → Path f 5 (at 0 (short (A_F + 2 * m)) at4 s.last) (18 ∷ 24 ∷ [])
      (record (at 0 0 link (Some 24)) { counter = m + 2 })
  path at4 =
      let size = locations_most s.size in
      let back : m + 2 < top = omega (arith, o.back) in
      on (A 0 (out 3 (early 3 o.low (lit< tt) all)) (short link) refl (omega arith))
      (on (T 1 (own 4) _ refl refl)
      (prints (O 2 (own 5) 18 refl refl)
      (prints (O 3 (own 6) 24 refl refl)
      (on (E_jumps 4 (any (m + 2) back) refl (lit< tt)) stay))))

  begins : state f (at 0 (short (A_F + 2 * m)) (get_or s.store.words (b + 4) 0) s.last) s.orders ≡ s
  begins =
      let size = locations_most s.size in
      let same = patched-filled (image b) s.store.words b (omega (arith, o.under, o.fits, size, all)) o.holds in
      let z : b + 0 ≡ b = omega arith in
      rw (z, same, sym o.acc, sym o.counter) refl

  -- five orders print the two codes and lead to the order after the call
  pub newline : Leads 5 s (18 ∷ 24 ∷ []) (record s {
    store = record { words = patched 0 s.store.words b (cells b link); sandwich = s.store.sandwich };
    acc = 0;
    counter = m + 2;
    last = Some 24;
    orders = s.orders + 5;
  })
  newline = rw begins at (Leads-path (path (get_or s.store.words (b + 4) 0)) s.orders)

  -- each word of the store is unchanged, except the order that returns
  pub keeps : (i : ℕ) → (IsWorking (image b) b i → ⊥)
      → get_or (patched 0 s.store.words b (cells b link)) i 0 ≡ get_or s.store.words i 0
  keeps = get_or-patched (image b) s.store.words b (cells b link) refl refl o.holds
