-- The two orders that call a routine: A m F at m, and after it G to the routine's base.
use Rattle.ed_sources.proofs.Kit.{A_F, G_F, patched-filled, None, [], ap, arith, get_or, length, List, refl, rules}
use Rattle.ed_sources.proofs.Kit.{Some, subst, sym, ℕ, ◌*◌, ◌+◌, ◌<◌, ◌^◌, ◌∷◌, ◌≡◌, ◌≤◌, locations, locations_most}
use Rattle.ed_sources.proofs.Kit.{short_at, State, Frame, Moment, short, state, Leads, A, G_jumps, Leads-path, on, Path}
use Rattle.ed_sources.proofs.Kit.{stay, own, Holds, patched, place_count, caller, HasWord, IsLoadedAt, IsOutside}
use Rattle.ed_sources.proofs.Kit.{state_after}
use Rattle.ed_machine.proofs.Kit.Places.{any}
use Rattle.ed_machine.proofs.Kit.Paths.{state_after-each}
use Rattle.ed_routines.proofs.Walks.{Weights, total, total_of_path, weigh, weight}
use Rattle.ed_orders.specs.declared.kind.Kind.{Kind}
use Rattle.ed_machine.proofs.Kit.Orders.{IsOrder}

-- a state before such a call, from m to a base
pub record IsBefore (s : State) (m base : ℕ) : Type 0 where
  pub counter : s.counter ≡ m
  pub acc : s.acc ≡ 0
  pub first : get_or s.store.words m 0 ≡ A_F + 2 * m
  pub second : get_or s.store.words (m + 1) 0 ≡ G_F + 2 * base
  pub all : length s.store.words ≡ 1024
  pub room : m + 3 ≤ locations s.size
  pub there : base < locations s.size

-- the state after it, in which the routine is called
abbrev pub called : State → ℕ → ℕ → State
called s m base = record s { acc = short (A_F + 2 * m); counter = base; orders = s.orders + 2 }

-- what a store has of a routine at a base
pub record HasRoutine (s : State) (r base : ℕ) (parameters : List ℕ) : Type 0 where
  pub low : 56 ≤ base
  pub fits : base + place_count r ≤ locations s.size
  pub at2 : short_at s.store 2 ≡ 2
  pub at3 : short_at s.store 3 ≡ 28676
  pub image : (i : ℕ) → i < place_count r → HasWord r parameters base s i

module _ {s : State} {m base : ℕ} (o : IsBefore s m base) where
  abbrev cells : List ℕ
  cells = (A_F + 2 * (m + 0)) ∷ (G_F + 2 * base) ∷ get_or s.store.words (m + 2) 0 ∷ []

  abbrev at : ℕ → ℕ → Moment
  at v place = record {
    words = s.store.words;
    digits = s.store.sandwich;
    cells = cells;
    pairs = [];
    acc = short v;
    multiplier = s.multiplier;
    counter = place;
    tape = s.tape;
    last = s.last;
  }

  holds : Holds (Some (A_F + 2 * (m + 0)) ∷ Some (G_F + 2 * base) ∷ None ∷ []) s.store.words m
  holds h l = search rules

  same : patched 0 s.store.words m cells ≡ s.store.words
  same =
      let size = locations_most s.size in
      let room = o.room in
      let all = o.all in
      patched-filled (Some (A_F + 2 * (m + 0)) ∷ Some (G_F + 2 * base) ∷ None ∷ []) s.store.words m (omega arith) holds

  -- the two orders, if they and the routine are below a location
  module _ (top : ℕ) (room : m + 3 ≤ top) (there : base < top) (fits : top ≤ locations s.size) where
    abbrev f : Frame 3 0
    f = record { size = s.size; base = m; top = top; under = room; fits = fits }

    abbrev path : Path f 2 (at 0 (m + 0)) [] (at (A_F + 2 * m) base)
    path =
        let size = locations_most s.size in
        on (A 0 (own 0) (short (A_F + 2 * m)) refl (omega arith))
        (on (G_jumps 1 (any base there) refl (omega arith)) stay)

    begins : state f (at 0 (m + 0)) s.orders ≡ s
    begins = search (rules, same)

    ends : state f (at (A_F + 2 * m) base) (s.orders + 2) ≡ called s m base
    ends = search (rules, same)

    -- what holds of every order that stays below the location holds before each of them
    pub call_keeps : (P : State → Type 0) → ((kind : Kind) (x : State) → IsOrder top kind x → P x) → (j : ℕ) → j < 2
        → P (state_after j s)
    call_keeps P is j l = subst (λ x. P (state_after j x)) begins (state_after-each P is path s.orders j l)

    -- what is counted for each order that stays below the location
    pub call_weighs : (w : Weights) (of : State → ℕ)
        → ((kind : Kind) (x : State) → IsOrder top kind x → of x ≡ weight w kind x.acc)
        → total of 2 s ≡ weigh w path
    call_weighs w of by_order =
        subst (λ x. total of 2 x ≡ weigh w path) begins (total_of_path w of by_order path s.orders)

  pub Leads-calls : Leads 2 s [] (called s m base)
  Leads-calls =
      let room = o.room in
      let fits : locations s.size ≤ locations s.size = omega arith in
      rw (begins (locations s.size) room o.there fits, ends (locations s.size) room o.there fits) at
      (Leads-path (path (locations s.size) room o.there fits) s.orders)

  pub caller_is : caller (called s m base) ≡ m
  caller_is = omega arith

  -- the location to which it returns, and the two after it, are within the store
  pub caller-back : caller (called s m base) + 3 ≤ locations s.size
  caller-back = let e = caller_is in let room = o.room in omega arith

  -- a location outside a routine is so when it is called
  pub IsOutside-called : {r h : ℕ} → IsOutside r base h s → IsOutside r base h (called s m base)
  IsOutside-called out = record { below = out.below; beside = out.beside }

  -- a routine whose words are at the base is there, called
  pub IsLoadedAt-stands : {r : ℕ} {parameters : List ℕ} → HasRoutine s r base parameters
      → IsLoadedAt r parameters base (called s m base)
  IsLoadedAt-stands has = record {
    low = has.low;
    fits = has.fits;
    counter = refl;
    at2 = has.at2;
    at3 = has.at3;
    image = λ i l. record { has = (has.image i l).has };
    call = record { acc = ap (λ x. (A_F + 2 * x) * 2 ^ 54) (sym caller_is); room = caller-back };
  }
