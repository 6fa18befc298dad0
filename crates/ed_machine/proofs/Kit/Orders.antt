-- One order of a piece: the word at its cell, the location that it names, and the step of the machine that it is.
use Rattle.ed_machine.proofs.Names.{rules, true≢false, ◌&&◌, and_parts, locations, within, address_of, digit}
use Rattle.ed_machine.proofs.Names.{function_of, is_long, locations_most, get_or, nat_eq, ◌*◌, Kind, E, F, G, L, R, X}
use Rattle.ed_machine.proofs.Names.{Y, Z, ap, arith, Bool, false, length, nat_lt, refl, Some, sym, true, ℕ, ◌+◌, ◌<◌}
use Rattle.ed_machine.proofs.Names.{◌∙◌, ◌≡◌, ◌≤◌, kind_of_function, next_word, obey, step, State, Turn}
use Rattle.std.proofs.Common.{◌||◌}
use Rattle.std.proofs.lemmas.Bool.{or_parts}
use Rattle.ed_words.specs.Words.{is_spare}
use Rattle.ed_words.proofs.SizeLemmas.{within_below}
use Rattle.ed_machine.proofs.Kit.Frames.{Frame, Moment, all_words, state}
use Rattle.ed_machine.proofs.Kit.Places.{Place, address, is_pair, is_there, address-near}
use Rattle.ed_machine.proofs.Kit.Window.{get_own}

-- whether an order of a kind names a location, whether it jumps to it, and whether it is F
abbrev pub names : Kind → Bool
names R = false
names L = false
names X = false
names Y = false
names Z = false
names kind = true

abbrev pub jumps : Kind → Bool
jumps E = true
jumps G = true
jumps kind = false

abbrev pub is_F : Kind → Bool
is_F F = true
is_F kind = false

-- an order that names a location below another
pub record IsNear (top w : ℕ) : Type 0 where
  pub plain : is_spare w ≡ false
  pub below : address_of w < top

-- what holds before an order of a path: it is of the kind, not F, and neither it nor the location that it names is at
-- the limit or above
pub record IsOrder (top : ℕ) (kind : Kind) (s : State) : Type 0 where
  pub fits : top ≤ locations s.size
  pub counter : s.counter < top
  pub kind_is : kind_of_function (function_of (next_word s)) ≡ Some kind
  pub near : names kind ≡ true → IsNear top (next_word s)
  pub short : jumps kind ≡ true → is_long (next_word s) ≡ false
  pub no_F : is_F kind ≡ false

-- an order of a kind leads from one moment to another
pub record Does {n h : ℕ} (f : Frame n h) (kind : Kind) (r : Moment) (turn : Turn) (t : Moment) : Type 0 where
  pub does : (k : ℕ) → step (state f r k) ≡ record { state = state f t (k + 1); turn = turn }
  pub order : (k : ℕ) → IsOrder f.top kind (state f r k)

-- the word at the counter, if it is known otherwise than by computation
pub word_is : {c v w : ℕ} {a b : Bool} → v ≡ w → ◌≡◌ {A = ℕ × (ℕ × (Bool × Bool))} (c, (v, (a, b))) (c, (w, (a, b)))
word_is {c} {a = a} {b = b} e = λ i. (c, (e i, (a, b)))

-- that a location is the piece's, if it is known otherwise than by computation
pub there_is : {c w : ℕ} {a b : Bool} → b ≡ true
    → ◌≡◌ {A = ℕ × (ℕ × (Bool × Bool))} (c, (w, (a, b))) (c, (w, (a, true)))
there_is {c} {w} {a} e = λ i. (c, (w, (a, e i)))

-- the word of an order with no spare digit, by its function and address
abbrev word_by : ℕ → Bool → ℕ → ℕ
word_by g long a = 4096 * g + digit long + 2 * a

long_by : (g a : ℕ) (long : Bool) → is_long (word_by g long a) ≡ long
long_by g a long = search rules

fields_by : (g a : ℕ) (long : Bool) → a < 1024
    → (function_of (word_by g long a) ≡ g) × (address_of (word_by g long a) ≡ a)
fields_by g a long h = search rules

plain_by : (g a : ℕ) (long : Bool) → a < 1024 → is_spare (word_by g long a) ≡ false
plain_by g a long h = search rules

-- a kind that names no location neither jumps nor is F
stays : (kind : Kind) → names kind ≡ false → (jumps kind ≡ false) × (is_F kind ≡ false)
stays kind e = search rules

-- an order that jumps does so at a short location
short_by : (a b c : Bool) → (a && (b && c)) ≡ false → a ≡ true → b ≡ true → c ≡ false
short_by a b c e x y = grind arith

module _ {n h : ℕ} (f : Frame n h) (r : Moment) where
  -- the counter is at cell i, which holds the word w, and a test holds
  abbrev pub Stands : ℕ → ℕ → Bool → Type 0
  Stands i w test = ◌≡◌ {A = ℕ × (ℕ × (Bool × Bool))}
      (r.counter, (get_or r.cells i 0, (nat_lt (i + 1) n && nat_eq (length r.cells) n, test)))
      (f.base + i, (w, (true, true)))

  -- the cell holds the order with the function g that names the location; a further test holds
  abbrev pub Names : ℕ → ℕ → Place f r → Bool → Type 0
  Names i g p more = Stands i (4096 * g + digit (is_pair f r p) + 2 * address f r p) (more && is_there f r p)

  -- what the word at the counter is
  pub record IsWord (kind : Kind) (w next : ℕ) : Type 0 where
    pub here : get_or (all_words f r) r.counter 0 ≡ w
    pub kind_is : kind_of_function (function_of w) ≡ Some kind
    pub after : within f.size (r.counter + 1) ≡ next
    pub low : r.counter < f.top
    pub all : length r.cells ≡ n

  pub word : (i w : ℕ) (test : Bool) (kind : Kind) → Stands i w test → kind_of_function (function_of w) ≡ Some kind
      → IsWord kind w (f.base + (i + 1))
  word i w test kind e is = search (rules, get_own)

  pub step-word : (kind : Kind) (w next k : ℕ) → IsWord kind w next → step (state f r k) ≡ obey kind w (state f r k)
  unfolding step
  step-word kind w next k o = rw (o.here, o.kind_is) refl

  -- what it names
  pub record Named (kind : Kind) (p : Place f r) (more : Bool) (next : ℕ) : Type 0 where
    pub w : ℕ
    pub is : IsWord kind w next
    pub place : within f.size (address_of w) ≡ address f r p
    pub long : is_long w ≡ is_pair f r p
    pub there : is_there f r p ≡ true
    pub more_is : more ≡ true
    pub reaches : IsNear f.top w

  pub Named-at : (i g : ℕ) {kind : Kind} (p : Place f r) (more : Bool) → Names i g p more → kind_of_function g
      ≡ Some kind
      → Named kind p more (f.base + (i + 1))
  Named-at i g {kind} p more e is =
      let w : ℕ = 4096 * g + digit (is_pair f r p) + 2 * address f r p in
      let tests = and_parts more (is_there f r p) (ap (λ x. x.1.1.1) e) in
      let below = address-near f r p tests.1 in
      let small : address f r p < 1024 = omega (arith, below, f.fits, locations_most f.size) in
      let x = fields_by g (address f r p) (is_pair f r p) small in
      record {
        w = w;
        is = word i w (more && is_there f r p) kind e (ap kind_of_function x.0 ∙ is);
        place = ap (within f.size) x.1 ∙ within_below f.size (address f r p) (omega (arith, below, f.fits));
        long = long_by g (address f r p) (is_pair f r p);
        there = tests.1;
        more_is = tests.0;
        reaches = record { plain = plain_by g (address f r p) (is_pair f r p) small; below = rw x.1 below };
      }

  order_of : (kind : Kind) {w next : ℕ} → is_F kind ≡ false → IsWord kind w next → (names kind ≡ true → IsNear f.top w)
      → (jumps kind ≡ true → is_long w ≡ false) → (k : ℕ) → IsOrder f.top kind (state f r k)
  order_of kind no_F o near short k = search rules

module _ {n h : ℕ} {f : Frame n h} {r : Moment} {kind : Kind} {turn : Turn} {t : Moment} where
  -- an order that names a location, and is not F; if it jumps it is short
  pub by_place : (i g : ℕ) (p : Place f r) (more : Bool) → Names f r i g p more → kind_of_function g ≡ Some kind
      → (is_F kind || (jumps kind && (more && is_pair f r p))) ≡ false
      → ((o : Named f r kind p more (f.base + (i + 1))) (k : ℕ)
      → obey kind o.w (state f r k) ≡ record { state = state f t (k + 1); turn = turn })
      → Does f kind r turn t
  by_place i g p more e is fine does =
      let o = Named-at f r i g p more e is in
      let x = or_parts (is_F kind) (jumps kind && (more && is_pair f r p)) fine in
      record {
        does = λ k. step-word f r kind o.w (f.base + (i + 1)) k o.is ∙ does o k;
        order = order_of f r kind x.0 o.is (λ y. o.reaches)
            (λ y. o.long ∙ short_by (jumps kind) more (is_pair f r p) x.1 y o.more_is);
      }

  -- an order whose whole word matters
  pub by_word : (i w : ℕ) → Stands f r i w true → kind_of_function (function_of w) ≡ Some kind → names kind ≡ false
      → ((o : IsWord f r kind w (f.base + (i + 1))) (k : ℕ)
      → obey kind w (state f r k) ≡ record { state = state f t (k + 1); turn = turn })
      → Does f kind r turn t
  by_word i w e is none does =
      let o = word f r i w true kind e is in
      let x = stays kind none in
      record {
        does = λ k. step-word f r kind w (f.base + (i + 1)) k o ∙ does o k;
        order = order_of f r kind x.1 o (λ y. absurd (true≢false (sym y ∙ none)))
            (λ y. absurd (true≢false (sym y ∙ x.0)));
      }
