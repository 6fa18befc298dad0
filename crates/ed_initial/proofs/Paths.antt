-- What the Initial Orders do with each kind of row, as the paths of their listing: each line is one order, by its
-- cell and what it names, with the number that it leaves.
use Rattle.ed_initial.proofs.Kit.{not, A_F, E_F, T_F, Size, locations_least, Kind, Went, Moment, Moves, ◌^◌, nat_tests}
use Rattle.ed_initial.proofs.Kit.{step, State, [], arith, Bool, false, get_or, inr, length, List, lit<, lit≤, nat_eq}
use Rattle.ed_initial.proofs.Kit.{Option, refl, set, Some, suc, true, ℕ, ◌%◌, ◌&&◌, ◌*◌, ◌+◌, ◌-◌, ◌/◌, ◌<◌, ◌∷◌, ◌≡◌}
use Rattle.ed_initial.proofs.Kit.{◌≤◌, locations, enters, is_E, Working, is_rest}
use Rattle.std.proofs.lemmas.Bool.{lt-ltb}
use Rattle.ed_words.specs.declared.order_words.TheConstants.{L_D, V_F}
use Rattle.ed_words.proofs.SizeLemmas.{locations_most as most_locations}
use Rattle.ed_orders.specs.declared.kind.Kind.TheVariants.{E as KindE, I as KindI, T as KindT}
use Rattle.ed_machine.proofs.Kit.Frames.{Frame, all_words, short, state as piece_state}
use Rattle.ed_machine.proofs.Kit.Moves.{A, S, T, T_top, I, H, E_jumps, E_stays, G_jumps, G_stays, R, L, V}
use Rattle.ed_machine.proofs.Kit.Orders.{word_is}
use Rattle.ed_machine.proofs.Kit.Places.{own, out, pair, any}
use Rattle.ed_machine.proofs.Kit.Shifts.{R4F, R16F, LD, L8F}

-- what does not change during a load
pub record Kept : Type 0 where
  pub size : Size
  pub digits : List Bool
  pub room : 20 < length digits
  pub last : Option ℕ

-- the 44 words from 0 upwards, with the digit of the pair 40, 41
abbrev pub piece : Kept → Frame 44 20
piece f = record {
  size = f.size;
  base = 0;
  top = locations f.size;
  under = omega (arith, locations_least f.size);
  fits = omega arith;
}

abbrev pub state : Kept → Moment → ℕ → State
state f r k = piece_state (piece f) r k

-- whether an order is not an E at 22, which may enter the program
abbrev pub is_calm : Kind → ℕ → Bool
is_calm kind c = not (is_E (Some kind) && nat_eq c 22)

-- orders one after the other, none of which reaches a rest
pub data Walk (f : Kept) : ℕ → Moment → Moment → Type 0 where
  stay : {r : Moment} → Walk f 0 r r
  on : {k : ℕ} {kind : Kind} {r m t : Moment} → Moves (piece f) kind r m
      → (is_calm kind r.counter && not (is_rest m.counter)) ≡ true
      → Walk f k m t → Walk f (suc k) r t

-- the same with one more order, which reaches a rest
pub data ToRest (f : Kept) : ℕ → Moment → Moment → Type 0 where
  ends : {k : ℕ} {kind : Kind} {r m t : Moment} → Walk f k r m → Moves (piece f) kind m t
      → is_calm kind m.counter ≡ true
      → ToRest f (suc k) r t

-- the order that enters the program
pub record Enters (f : Kept) (r t : Moment) : Type 0 where
  pub does : (k : ℕ) → step (state f r k) ≡ record { state = state f t (k + 1); turn = Went }
  pub jumps : (k : ℕ) → enters (state f r k) ≡ true

followed : {f : Kept} {a b : ℕ} {r m t : Moment} → Walk f a r m → Walk f b m t → Walk f (a + b) r t
followed {b = b} stay h = let e : 0 + b ≡ b = omega arith in rw e h
followed {b = b} (on {k = k} first away rest) h =
    let e : suc k + b ≡ suc (k + b) = omega arith in rw e (on first away (followed rest h))

-- the words of the 44 locations
abbrev pub cells : Working → List ℕ
cells w =
    w.at0 ∷ w.at1 ∷ 2 ∷ 28676 ∷ 114766 ∷ 16392 ∷ V_F ∷ 102416 ∷ T_F ∷ 32770 ∷ 114690
    ∷ 49230 ∷ 110600 ∷ L_D ∷ 49230 ∷ 12322 ∷ 49166 ∷ 114758 ∷ 20520 ∷ A_F ∷ w.at20 ∷ 114768
    ∷ w.at22 ∷ 114732 ∷ 114692 ∷ 20524 ∷ 12356 ∷ 114774 ∷ 12304 ∷ 114772 ∷ 114768 ∷ 12338 ∷ 114732
    ∷ 20564 ∷ 32849 ∷ 114769 ∷ 16416 ∷ 20561 ∷ 12304 ∷ 11 ∷ w.at40 ∷ w.at41 ∷ w.at42 ∷ w.at43 ∷ []

-- the machine between two orders of a load; `words` are those of the store; the first 44 of them make no difference
abbrev pub moment : Kept → Working → List ℕ → Bool → ℕ → ℕ → List ℕ → Moment
moment f w words digit40 acc counter tape = record {
  words = words;
  digits = f.digits;
  cells = cells w;
  pairs = digit40 ∷ [];
  acc = acc;
  multiplier = T_F * 2 ^ 18;
  counter = counter;
  tape = tape;
  last = f.last;
}

-- the rests 9 and 34 are not among the locations 27 to 33
away : (c : ℕ) → 11 ≤ c → c < 17 → not (is_rest (16 + c)) ≡ true
away c low high = let e : is_rest (16 + c) ≡ false = grind (arith, nat_tests) in rw e refl

module _ (f : Kept) (w : Working) (words : List ℕ) (digit40 : Bool) where
  abbrev at : Working → ℕ → ℕ → List ℕ → Moment
  at now acc counter tape = moment f now words digit40 acc counter tape

  -- the listing as Start places it
  abbrev pub begun : Working
  begun = record w { at0 = T_F; at1 = 12328; at20 = 86032; at22 = 20566; at40 = 1 }

  -- the start, from any accumulator and multiplier
  pub start_path : (acc multiplier : ℕ) (tape : List ℕ)
      → ToRest f 9 (record (at begun acc 0 tape) { multiplier = multiplier })
      (at (record begun { at0 = acc / 2 ^ 54; at22 = 20568; at43 = 1 }) 0 34 tape)
  start_path acc multiplier tape =
      ends (on (T_top 0 (own 0) _ refl refl) refl
      (on (E_jumps 1 (own 20) refl (lit< tt)) refl
      (on (H 20 (own 8) refl) refl
      (on (A 21 (own 40) (short 1) refl refl) refl
      (on (T 22 (own 43) 1 refl refl) refl
      (on (A 23 (own 22) (short 20566) refl refl) refl
      (on (A 24 (own 2) (short 20568) refl refl) refl
      (on (T 25 (own 22) 20568 refl refl) refl stay))))))))
      (E_jumps 26 (own 34) refl (lit< tt)) refl

  -- a row read into 41, and the pair's number written
  I_pair : (c : ℕ) (rest : List ℕ) → c < 32
      → Moves (piece f) KindI (at w 0 34 (c ∷ rest)) (moment f (record w { at40 = 0; at41 = c }) words false 0 35 rest)
  I_pair c rest h =
      let low : c * 2 ^ 18 % 2 ^ 17 ≡ 0 = omega arith in
      let high : c * 2 ^ 18 / 2 ^ 18 ≡ c = omega arith in
      let middle : c * 2 ^ 18 / 2 ^ 17 % 2 ≡ 0 = omega arith in
      rw (low, high, middle) at
      (I {f = piece f} {r = at w 0 34 (c ∷ rest)} 34 (pair 40 0 refl) (c * 2 ^ 18) refl refl refl)

  T_pair : (c : ℕ) (rest : List ℕ) → c < 32
      → Moves (piece f) KindT (moment f (record w { at40 = 0; at41 = c }) words false (c * 2 ^ 48) 37 rest)
      (moment f (record w { at40 = 4096 * c; at41 = 0 }) words false 0 38 rest)
  T_pair c rest h =
      let low : 4096 * c % 2 ^ 17 ≡ 4096 * c = omega arith in
      let high : 4096 * c / 2 ^ 18 ≡ 0 = omega arith in
      let middle : 4096 * c / 2 ^ 17 % 2 ≡ 0 = omega arith in
      let r = moment f (record w { at40 = 0; at41 = c }) words false (c * 2 ^ 48) 37 rest in
      rw (low, high, middle) at (T {f = piece f} {r = r} 37 (pair 40 0 refl) (4096 * c) refl (omega arith))

  -- a function row
  pub function_path : (c : ℕ) (rest : List ℕ) → c < 32
      → ToRest f 6 (at w 0 34 (c ∷ rest))
      (moment f (record w { at0 = 0; at40 = 4096 * c; at41 = 0 }) words false 0 9 rest)
  function_path c rest h =
      ends (on (I_pair c rest h) refl
      (on (A 35 (pair 40 0 refl) (short c) refl (omega arith)) refl
      (on (R 36 R16F (c * 2 ^ 48) refl (omega arith)) refl
      (on (T_pair c rest h) refl
      (on (E_jumps 38 (own 8) refl (lit< tt)) refl stay)))))
      (T 8 (own 0) 0 refl refl) refl

  -- a digit row
  pub digit_path : {c u : ℕ} {rest : List ℕ} → c < 10 → w.at0 < 2 ^ 16 → 2 * (c + 5 * w.at0) ≡ u → u < 2 ^ 16
      → ToRest f 9 (at w 0 9 (c ∷ rest)) (at (record w { at0 = u; at1 = c }) 0 9 rest)
  digit_path {c} {u} h small is fits =
      ends (on (I 9 (own 1) c refl refl refl) refl
      (on (A 10 (own 1) (short c) refl (omega arith)) refl
      (on (S 11 (own 39) (short (c + (2 ^ 17 - 11))) refl (omega arith)) refl
      (on (G_jumps 12 (own 4) refl (omega arith)) refl
      (on (A 4 (own 39) (short c) refl (omega arith)) refl
      (on (R 5 R4F (c * 2 ^ 50) refl (omega arith)) refl
      (on (V 6 (own 0) ((c + 5 * w.at0) * 2 ^ 50) refl (omega arith)) refl
      (on (L 7 L8F (short u) refl (omega arith)) refl stay))))))))
      (T 8 (own 0) u refl refl) refl

  -- a row of 11 or more, up to the branch on it
  ending_row : (c : ℕ) (rest : List ℕ) → 11 ≤ c → c < 32
      → Walk f 6 (at w 0 9 (c ∷ rest)) (at (record w { at1 = c }) (short ((2 ^ 17 + 2 * c - 33) % 2 ^ 17)) 15 rest)
  ending_row c rest low most =
      on (I 9 (own 1) c refl refl refl) refl
      (on (A 10 (own 1) (short c) refl (omega arith)) refl
      (on (S 11 (own 39) (short (c - 11)) refl (omega arith)) refl
      (on (G_stays 12 (own 4) refl (omega arith)) refl
      (on (L 13 LD (short (2 * (c - 11))) refl (omega arith)) refl
      (on (S 14 (own 39) (short ((2 ^ 17 + 2 * c - 33) % 2 ^ 17)) refl (omega arith)) refl stay)))))

  -- a row of 11 to 16, up to the location that it names
  control_row : (c : ℕ) (rest : List ℕ) → 11 ≤ c → c < 17 → w.at0 < 2 ^ 16
      → Walk f 12 (at w 0 9 (c ∷ rest)) (at (record w { at1 = c; at20 = 12320 + 2 * c }) (short w.at0) (16 + c) rest)
  control_row c rest low most fits =
      let size = locations_least f.size in
      let order : 12320 + 2 * c ≡ E_F + 2 * (16 + c) = omega arith in
      followed (ending_row c rest low (omega arith))
      (on (E_stays 15 (own 17) refl (omega arith)) refl
      (on (S 16 (own 7) (short (2 ^ 17 + 2 * c - 33 - 102416)) refl (omega arith)) refl
      (on (A 17 (own 35) (short (12320 + 2 * c)) refl (omega arith)) refl
      (on (T 18 (own 20) _ refl refl) refl
      (on (A 19 (own 0) (short w.at0) refl (omega arith)) refl
      (on (E_jumps 20 (any (16 + c) (omega arith)) (word_is order) (omega arith)) (away c low most) stay))))))

  -- π
  pub mark_path : {u : ℕ} {rest : List ℕ} → w.at43 ≡ 1 → w.at0 + 1 ≡ u → u < 2 ^ 16
      → ToRest f 15 (at w 0 9 (11 ∷ rest)) (at (record w { at0 = u; at1 = 11; at20 = 12342 }) 0 9 rest)
  mark_path {u} {rest} one is fits =
      ends (followed (control_row 11 rest (lit≤ tt) (lit< tt) (omega arith))
      (on (A 27 (own 43) (short u) refl (omega arith)) refl
      (on (E_jumps 28 (own 8) refl (omega arith)) refl stay)))
      (T 8 (own 0) u refl refl) refl

  -- K of a directive
  pub kay_directive_path : (u : ℕ) (rest : List ℕ) → w.at0 + w.at40 ≡ u → u < 2 ^ 16
      → ToRest f 16 (at w 0 9 (14 ∷ rest)) (at (record w { at1 = 14; at20 = 12348; at22 = u }) 0 34 rest)
  kay_directive_path u rest is fits =
      ends (followed (control_row 14 rest (lit≤ tt) (lit< tt) (omega arith))
      (on (A 30 (own 40) (short u) refl (omega arith)) refl
      (on (E_jumps 31 (own 25) refl (omega arith)) refl
      (on (T 25 (own 22) _ refl refl) refl stay))))
      (E_jumps 26 (own 34) refl (lit< tt)) refl

  -- K of θ
  pub kay_theta_path : (x : ℕ) {u : ℕ} {rest : List ℕ} → w.at0 + w.at40 ≡ x
      → (w.at0 < 2 ^ 16) × (2 ^ 16 ≤ x) × (x < 2 ^ 17) → (x + w.at22) % 2 ^ 17 ≡ u
      → ToRest f 16 (at w 0 9 (14 ∷ rest)) (at (record w { at1 = 14; at20 = 12348; at42 = u }) 0 34 rest)
  kay_theta_path x {u} {rest} sum range is =
      let low = range.1 in
      let fits = range.2 in
      ends (followed (control_row 14 rest (lit≤ tt) (lit< tt) range.0)
      (on (A 30 (own 40) (short x) refl (omega arith)) refl
      (on (E_stays 31 (own 25) refl (omega arith)) refl
      (on (A 32 (own 22) (short u) refl (omega arith)) refl stay))))
      (T 33 (own 42) u refl refl) refl

  -- Z of a directive
  pub zed_directive_path : (u : ℕ) (rest : List ℕ) → w.at0 + w.at42 + w.at40 ≡ u → u < 2 ^ 16
      → ToRest f 17 (at w 0 9 (13 ∷ rest)) (at (record w { at1 = 13; at20 = 12346; at22 = u }) 0 34 rest)
  zed_directive_path u rest is fits =
      ends (followed (control_row 13 rest (lit≤ tt) (lit< tt) (omega arith))
      (on (A 29 (own 42) (short (w.at0 + w.at42)) refl (omega arith)) refl
      (on (A 30 (own 40) (short u) refl (omega arith)) refl
      (on (E_jumps 31 (own 25) refl (omega arith)) refl
      (on (T 25 (own 22) _ refl refl) refl stay)))))
      (E_jumps 26 (own 34) refl (lit< tt)) refl

  -- Z of θ
  pub zed_theta_path : {u : ℕ} {rest : List ℕ} → w.at40 ≡ 65536 → w.at0 + w.at42 < 2 ^ 16
      → (65536 + w.at0 + w.at42 + w.at22) % 2 ^ 17 ≡ u
      → ToRest f 17 (at w 0 9 (13 ∷ rest)) (at (record w { at1 = 13; at20 = 12346; at42 = u }) 0 34 rest)
  zed_theta_path {u} {rest} blank fits is =
      ends (followed (control_row 13 rest (lit≤ tt) (lit< tt) (omega arith))
      (on (A 29 (own 42) (short (w.at0 + w.at42)) refl (omega arith)) refl
      (on (A 30 (own 40) (short (65536 + w.at0 + w.at42)) refl (omega arith)) refl
      (on (E_stays 31 (own 25) refl (omega arith)) refl
      (on (A 32 (own 22) (short u) refl (omega arith)) refl stay)))))
      (T 33 (own 42) u refl refl) refl

  -- the second blank of a pair
  pub blank_path : (rest : List ℕ) → w.at0 ≡ 0 → w.at22 < 2 ^ 17
      → ToRest f 14 (at w 0 9 (16 ∷ rest)) (at (record w { at1 = 16; at20 = 12352; at42 = w.at22 }) 0 34 rest)
  blank_path rest none fits =
      ends (followed (control_row 16 rest (lit≤ tt) (lit< tt) (omega arith))
      (on (A 32 (own 22) (short w.at22) refl (omega arith)) refl stay))
      (T 33 (own 42) w.at22 refl refl) refl

  -- the changing words once a code letter has been read
  abbrev pub lettered : ℕ → Working
  lettered c = record w { at1 = c; at20 = 114736 + 2 * c }

  -- a code letter c: its value is y, the item so far with it is x, and with the function u
  pub record IsLetter (c y x u : ℕ) : Type 0 where
    pub low : 17 ≤ c
    pub most : c < 32
    pub fits : w.at0 < 2 ^ 17
    pub value : get_or (all_words (piece f) (at (lettered c) 0 0 [])) (24 + c) 0 ≡ y
    pub sum : (w.at0 + y) % 2 ^ 17 ≡ x
    pub is : (x + w.at40) % 2 ^ 17 ≡ u

  -- it is read up to the order at 22
  pub letter_row : {c y x u : ℕ} {rest : List ℕ} → IsLetter c y x u
      → Walk f 12 (at w 0 9 (c ∷ rest)) (at (lettered c) (short u) 22 rest)
  letter_row {c} {x = x} {u} {rest} h =
      let size = locations_least f.size in
      let order : 114736 + 2 * c ≡ A_F + 2 * (24 + c) = omega arith in
      let most = h.most in
      let below : 24 + c < locations f.size = omega arith in
      let low = h.low in
      let fits = h.fits in
      let value = h.value in
      let sum = h.sum in
      let is = h.is in
      followed (ending_row c rest (omega arith) most)
      (on (E_jumps 15 (own 17) refl (omega arith)) refl
      (on (A 17 (own 35) (short (114736 + 2 * c)) refl (omega arith)) refl
      (on (T 18 (own 20) _ refl refl) refl
      (on (A 19 (own 0) (short w.at0) refl (omega arith)) refl
      (on (A 20 (any (24 + c) below) (short x) (word_is order) (omega arith)) refl
      (on (A 21 (own 40) (short u) refl (omega arith)) refl stay))))))

  -- it places a word
  pub placed_path : {c y x u : ℕ} (a : ℕ) {rest : List ℕ} → IsLetter c y x u → w.at22 ≡ T_F + 2 * a
      → (44 ≤ a) × (a < locations f.size)
      → ToRest f 17 (at w 0 9 (c ∷ rest))
      (moment f (record (lettered c) { at22 = w.at22 + 2 }) (set words a u) digit40 0 34 rest)
  placed_path {u = u} a h order range =
      let above = range.0 in
      let below = range.1 in
      let b = most_locations f.size in
      ends (followed (letter_row h)
      (on (T 22 (out a (record { below = below; beside = inr above })) u (word_is order) refl) refl
      (on (A 23 (own 22) (short w.at22) refl (omega arith)) refl
      (on (A 24 (own 2) (short (w.at22 + 2)) refl (omega arith)) refl
      (on (T 25 (own 22) _ refl refl) refl stay)))))
      (E_jumps 26 (own 34) refl (lit< tt)) refl

  -- the code letter of the entry item
  pub entry_order : (u : ℕ) {a : ℕ} {rest : List ℕ} → w.at22 ≡ E_F + 2 * a → a < locations f.size → u < 2 ^ 16
      → Enters f (at w (short u) 22 rest) (at w (short u) a rest)
  entry_order u {a} {rest} order below low =
      let m : Moves (piece f) KindE (at w (short u) 22 rest) (at w (short u) a rest) =
      E_jumps 22 (any a below) (word_is order) (omega arith) in
      record { does = m.does; jumps = λ k. rw ((m.order k).kind_is, lt-ltb (short u) (2 ^ 70) (omega arith)) refl }
