-- A journey: lines of a path, and calls of routines as lines among them, one after the other.
use Rattle.ed_routines.proofs.Kit.{A_F, all_words, Frame, Moment, short, state, Leads, A, G_jumps, Jumps, Reads, Does}
use Rattle.ed_routines.proofs.Kit.{Leads-path, on, Path, stay, any, own, length_patched, patched, [], ap, arith, false}
use Rattle.ed_routines.proofs.Kit.{get_or, inl, length, List, Option, rules, sym, ℕ, ◌*◌, ◌++◌, ◌+◌}
use Rattle.ed_routines.proofs.Kit.{◌<◌, ◌∙◌, ◌≡◌, ◌≤◌, ◌⊎◌, locations, locations_most, step, State, place_count}
use Rattle.ed_routines.proofs.Kit.{IsOther, caller, IsLoadedAt}
use Rattle.ed_orders.specs.declared.kind.Kind.TheVariants.{Z as KindZ}
use Rattle.ed_machine.specs.declared.turn.Turn.TheVariants.{Stopped}
use Rattle.ed_machine.proofs.Kit.Frames.{get_beside}
use Rattle.ed_machine.proofs.Kit.Leads.{Leads-append}
use Rattle.ed_machine.proofs.Kit.Window.{patched_self, get_own}
use Rattle.ed_library.specs.Images.{image_word}
use Rattle.ed_library.specs.Routines.{is_working}

-- k orders print the codes and lead to an order that stops the machine, with the counter at a location
pub record ReachesStop (k : ℕ) (s : State) (codes : List ℕ) (at : ℕ) : Type 0 where
  pub last : State
  pub leads : Leads k s codes last
  pub stops : (step last).turn ≡ Stopped
  pub counter : (step last).state.counter ≡ at
  pub orders : (step last).state.orders ≡ s.orders + k + 1

-- k orders lead from one moment of a piece to another and print the codes, from any number of orders done
pub record Journey {n h : ℕ} (f : Frame n h) (k : ℕ) (r : Moment) (codes : List ℕ) (t : Moment) : Type 0 where
  pub leads : (done : ℕ) → Leads k (state f r done) codes (state f t (done + k))

module _ {n h : ℕ} {f : Frame n h} where
  -- a path is a journey, and two journeys make one
  pub along : {k : ℕ} {r t : Moment} {codes : List ℕ} → Path f k r codes t → Journey f k r codes t
  along path = record { leads = Leads-path path }

  pub then : {a b : ℕ} {r m t : Moment} {cs ds : List ℕ} → Journey f a r cs m → Journey f b m ds t
      → Journey f (a + b) r (cs ++ ds) t
  then {a} {b} {r} {m} {t} {cs} {ds} first second = record {
    leads = λ done.
        let e : done + a + b ≡ done + (a + b) = omega arith in
        rw e at (Leads-append (first.leads done) (second.leads (done + a)));
  }

  -- a journey that ends at an order Z
  pub to_stop : {k : ℕ} {r t u : Moment} {codes : List ℕ} → Journey f k r codes t → Does f KindZ t Stopped u
      → (done : ℕ)
      → ReachesStop k (state f r done) codes u.counter
  to_stop {k} {t = t} journey z done = search rules

-- the same after other orders
pub stop_after : {a b at : ℕ} {s t : State} {cs ds : List ℕ} → Leads a s cs t → t.orders ≡ s.orders + a
    → ReachesStop b t ds at → ReachesStop (a + b) s (cs ++ ds) at
stop_after first count o = record {
  last = o.last;
  leads = Leads-append first o.leads;
  stops = o.stops;
  counter = o.counter;
  orders = let e = o.orders in omega (arith, e, count);
}

-- ---- a call of a routine of the library as one line

-- the routine r that is called in s at w prints the codes and returns after its call; its words are then ds, and
-- the last code is l
pub record Returns (r w : ℕ) (s : State) (k : ℕ) (codes ds : List ℕ) (l : Option ℕ) : Type 0 where
  pub leads : Leads k s codes (record s {
    store = record { words = patched 0 s.store.words w ds; sandwich = s.store.sandwich };
    acc = 0;
    counter = caller s + 2;
    last = l;
    orders = s.orders + k;
  })
  pub long : length (patched 0 s.store.words w ds) ≡ 1024
  pub keeps : (q : ℕ) → IsOther r w q → get_or (patched 0 s.store.words w ds) q 0 ≡ get_or s.store.words q 0

-- a routine is in the words outside a piece
pub record HasRoutine {n h : ℕ} (f : Frame n h) (words : List ℕ) (r w : ℕ) (parameters : List ℕ) : Type 0 where
  pub low : 56 ≤ w
  pub fits : w + place_count r ≤ locations f.size
  pub reached : w < f.top
  pub apart : (w + place_count r ≤ f.base) ⊎ (f.base + n ≤ w)
  pub at2 : get_or words 2 0 ≡ 2
  pub at3 : get_or words 3 0 ≡ 28676
  pub image : (i : ℕ) → i < place_count r → is_working r i ≡ false
      → get_or words (w + i) 0 ≡ image_word r i w parameters

-- the piece is above the parameters, in a store of 1024 words
pub record IsIn {n h : ℕ} (f : Frame n h) (r : Moment) : Type 0 where
  pub above : 56 ≤ f.base
  pub all : length r.words ≡ 1024
  pub own : length r.cells ≡ n

module _ {n h : ℕ} {f : Frame n h} {r : Moment} (o : IsIn f r) where
  -- a word outside the piece
  pub beside_word : (q : ℕ) → (q < f.base) ⊎ (f.base + n ≤ q) → get_or (all_words f r) q 0 ≡ get_or r.words q 0
  beside_word q h = search (rules, own, locations_most, get_beside)

  pub all_long : length (all_words f r) ≡ 1024
  all_long = search (rules, own, locations_most, length_patched)

  -- the moment in which a routine at w is called from the cell i
  abbrev pub called : ℕ → ℕ → Moment
  called i w = record r { acc = short (A_F + 2 * (f.base + i)); counter = w }

  pub caller_is : (i w done : ℕ) → caller (state f (called i w) done) ≡ f.base + i
  caller_is i w done = omega arith

  -- the routine is there, called
  pub IsLoadedAt-called : {r0 w : ℕ} {parameters : List ℕ} (i done : ℕ) → i + 3 ≤ n
      → HasRoutine f r.words r0 w parameters
      → IsLoadedAt r0 parameters w (state f (called i w) done)
  IsLoadedAt-called {r0} {w} {parameters} i done room has = search (rules, caller_is, beside_word)

  -- the moment after the call
  abbrev pub after_call : ℕ → ℕ → List ℕ → Option ℕ → Moment
  after_call w i ds l = record r {
    words = patched 0 (all_words f r) w ds;
    acc = 0;
    counter = f.base + (i + 2);
    last = l;
  }

  module _ {r0 w : ℕ} {parameters : List ℕ} {k : ℕ} {codes : List ℕ} (i : ℕ) (ds : List ℕ) (l : Option ℕ)
      (has : HasRoutine f r.words r0 w parameters)
      (returns : (done : ℕ) → IsLoadedAt r0 parameters w (state f (called i w) done)
      → Returns r0 w (state f (called i w) done) k codes ds l)
      (room : i + 3 ≤ n) where
    own_other : (j : ℕ) → j < n → IsOther r0 w (f.base + j)
    own_other j l = search rules

    gone : Returns r0 w (state f (called i w) 0) k codes ds l
    gone = returns 0 (IsLoadedAt-called i 0 room has)

    pub still_in : IsIn f (after_call w i ds l)
    still_in = record { above = o.above; all = gone.long; own = o.own }

    same_words : patched 0 (patched 0 (all_words f r) w ds) f.base r.cells ≡ patched 0 (all_words f r) w ds
    same_words =
        let own = o.own in let size = locations_most f.size in let under = f.under in let fits = f.fits in
        let long = gone.long in
        patched_self 0 (patched 0 (all_words f r) w ds) f.base r.cells (omega arith)
        (λ j l. sym (gone.keeps (f.base + j) (own_other j (omega arith))
        ∙ get_own 0 r.words f.base r.cells j (omega arith)))

    -- the words outside the piece and the routine's working locations are unchanged
    pub get_or-after_call : (q : ℕ) → (q < f.base) ⊎ (f.base + n ≤ q) → IsOther r0 w q
        → get_or (after_call w i ds l).words q 0 ≡ get_or r.words q 0
    get_or-after_call q beside other = gone.keeps q other ∙ beside_word q beside

    -- the two orders of the call, and the routine
    pub Journey-called : r.acc ≡ 0 → Reads {f = f} {r = r} i 28 (own i)
        → Jumps {f = f} {r = record r { acc = short (A_F + 2 * (f.base + i)); counter = f.base + (i + 1) }}
        (i + 1) 27 (any w has.reached)
        → Journey f (2 + k) r codes (after_call w i ds l)
    Journey-called clear first second = record {
      leads = λ done.
          let size = locations_most f.size in let under = f.under in let fits = f.fits in
          let word : get_or r.cells i 0 ≡ A_F + 2 * (f.base + i) = ap (λ x. x.1.0) first in
          let two : Path f 2 r [] (called i w) =
          on (A i (own i) (short (A_F + 2 * (f.base + i))) first (omega arith))
          (on (G_jumps (i + 1) (any w has.reached) second (omega arith)) stay) in
          let back : Returns r0 w (state f (called i w) (done + 2)) k codes ds l
          = returns (done + 2) (IsLoadedAt-called i (done + 2) room has) in
          let n : done + 2 + k ≡ done + (2 + k) = omega arith in
          let c : caller (state f (called i w) (done + 2)) + 2 ≡ f.base + (i + 2) =
          omega (arith, caller_is i w (done + 2)) in
          rw (← same_words, c, n) at (Leads-append (Leads-path two done) back.leads);
    }

    -- a routine that was in the store before the call is still there after it, if the call's routine works in none of
    -- its words
    pub has_after : {r1 w1 : ℕ} {others : List ℕ} → HasRoutine f r.words r1 w1 others
        → ((j : ℕ) → j < place_count r1 → is_working r1 j ≡ false → IsOther r0 w (w1 + j))
        → HasRoutine f (after_call w i ds l).words r1 w1 others
    has_after {r1} {w1} there other = record {
      low = there.low;
      fits = there.fits;
      reached = there.reached;
      apart = there.apart;
      at2 = let b = o.above in let low = has.low in
          get_or-after_call 2 (inl (omega arith)) (record { other = inl (omega arith) }) ∙ there.at2;
      at3 = let b = o.above in let low = has.low in
          get_or-after_call 3 (inl (omega arith)) (record { other = inl (omega arith) }) ∙ there.at3;
      image = λ j m free. get_or-after_call (w1 + j) (grind (arith, there.apart)) (other j m free)
          ∙ there.image j m free;
    }

-- an offset in a routine that is not a working one
pub no_working : {r w : ℕ} (j : ℕ) → is_working r j ≡ false → IsOther r w (w + j)
no_working {r} {w} j free = search rules

-- a location of another routine
pub IsOther-beside : {r w : ℕ} (q : ℕ) → (q < w) ⊎ (w + place_count r ≤ q) → IsOther r w q
IsOther-beside q given = grind arith
