-- What Initial Orders 1 do with each kind of row, as the paths of their listing: each line is one order, by its cell
-- and what it names, with the number that it leaves.
use Rattle.ed_initial1.proofs.Kit.{T_F, Full, short, T_top, own, [], arith, Bool, false, inr, List, lit<, lit≤, nat_eq}
use Rattle.ed_initial1.proofs.Kit.{Option, refl, set, suc, true, ℕ, ◌%◌, ◌*◌, ◌+◌, ◌/◌, ◌<◌, ◌^◌, ◌∷◌, ◌≡◌, ◌≤◌, digit}
use Rattle.ed_initial1.proofs.Kit.{Moment, ending_row, Item1, word1}
use Rattle.ed_words.specs.declared.order_words.TheConstants.{A_F, I_F, L_D, T_D}
use Rattle.ed_orders.specs.declared.kind.Kind.{Kind}
use Rattle.ed_orders.specs.declared.kind.Kind.TheVariants.{T as KindT}
use Rattle.ed_machine.proofs.Kit.Frames.{Frame}
use Rattle.ed_machine.proofs.Kit.Moves.{Moves, A, S, T, U, H, V, I, R, L, E_jumps, E_stays, G_jumps, G_stays}
use Rattle.ed_machine.proofs.Kit.Orders.{word_is}
use Rattle.ed_machine.proofs.Kit.Places.{out, pair}
use Rattle.ed_machine.proofs.Kit.Shifts.{R4F, R16F, LD, L8F}

-- the 31 orders and the first word after them, at 0 of a store of full size, with the digit of the pair 0, 1
abbrev pub piece : Frame 32 0
piece = record { size = Full; base = 0; top = 1024; under = lit≤ tt; fits = lit≤ tt }

-- orders one after the other, none of which reaches 31
pub data Walk : ℕ → Moment → Moment → Type 0 where
  stay : {r : Moment} → Walk 0 r r
  on : {k : ℕ} {kind : Kind} {r m t : Moment} → Moves piece kind r m → nat_eq m.counter 31 ≡ false → Walk k m t
      → Walk (suc k) r t

pub Walk-followed : {a b : ℕ} {r m t : Moment} → Walk a r m → Walk b m t → Walk (a + b) r t
Walk-followed {b = b} stay next = let e : 0 + b ≡ b = omega arith in rw e next
Walk-followed {b = b} (on {k = k} first away rest) next =
    let e : suc k + b ≡ suc (k + b) = omega arith in rw e (on first away (Walk-followed rest next))

-- the same with one more order, which reaches 31
pub data ToProgram : ℕ → Moment → Moment → Type 0 where
  ends : {k : ℕ} {kind : Kind} {r m t : Moment} → Walk k r m → Moves piece kind m t → nat_eq t.counter 31 ≡ true
      → ToProgram (suc k) r t

pub ToProgram-then : {a b : ℕ} {r m t : Moment} → Walk a r m → ToProgram b m t → ToProgram (a + b) r t
ToProgram-then {a = a} first (ends {k = k} walk last at) =
    let e : a + suc k ≡ suc (a + k) = omega arith in rw e (ends (Walk-followed first walk) last at)

-- the words that change
pub record Working : Type 0 where
  pub at0 : ℕ
  pub at1 : ℕ
  pub at2 : ℕ
  pub at3 : ℕ
  pub at25 : ℕ
  pub at31 : ℕ

-- the listing with those words, and the word at 31
abbrev pub cells : Working → List ℕ
cells w =
    w.at0 ∷ w.at1 ∷ w.at2 ∷ w.at3 ∷ 2 ∷ 10 ∷ T_F ∷ I_F ∷ A_F ∷ 16416 ∷ T_D ∷ 32772 ∷ 114692 ∷ 49162 ∷ 12330
    ∷ 20486 ∷ 126978 ∷ 102416 ∷ 114692 ∷ 20482 ∷ 12310 ∷ 16392 ∷ 114690 ∷ L_D ∷ A_F ∷ w.at25 ∷ 114738 ∷ 114696
    ∷ 28722 ∷ 49214 ∷ 110604 ∷ w.at31 ∷ []

-- what stays during a load: the other sandwich digits, and the last printed code
pub record Kept : Type 0 where
  pub digits : List Bool
  pub last : Option ℕ

-- the machine between two orders of a load; `words` are those of the store; the first 32 of them make no difference
abbrev pub moment : Kept → Working → List ℕ → Bool → ℕ → ℕ → List ℕ → Moment
moment q w words digit0 acc counter tape = record {
  words = words;
  digits = q.digits;
  cells = cells w;
  pairs = digit0 ∷ [];
  acc = acc;
  multiplier = T_F * 2 ^ 18;
  counter = counter;
  tape = tape;
  last = q.last;
}

-- the accumulator between L 0 L and the order at 25: a word at its upper end, and after it what is left of
-- the ending row, whose length digit is l
abbrev pub with_row : ℕ → ℕ → ℕ
with_row l u = u * 2 ^ 54 + (2 + 5 * l) * 2 ^ 51

-- the same for an item's word
abbrev pub with_word : Item1 → ℕ
with_word i = with_row (digit i.long) (word1 i)

bit : (b : Bool) → digit b < 2
bit true = lit< tt
bit false = lit< tt

end_row : (b : Bool) → ending_row b ≡ 12 + 13 * digit b
end_row true = refl
end_row false = refl

module _ (q : Kept) (w : Working) (words : List ℕ) (digit0 : Bool) where
  abbrev at : Working → ℕ → ℕ → List ℕ → Moment
  at now acc counter tape = moment q now words digit0 acc counter tape

  -- the listing as Start places it
  abbrev pub begun : Working
  begun = record w { at0 = T_F; at1 = 86020; at2 = T_F; at3 = 12300 }

  -- the start, from any accumulator and multiplier
  pub start_path : (acc multiplier : ℕ) (tape : List ℕ)
      → Walk 4 (record (at begun acc 0 tape) { multiplier = multiplier })
      (at (record begun { at0 = 0 }) 0 6 tape)
  start_path acc multiplier tape =
      on (T_top 0 (own 0) _ refl refl) refl
      (on (H 1 (own 2) refl) refl
      (on (T 2 (own 0) 0 refl refl) refl
      (on (E_jumps 3 (own 6) refl (lit< tt)) refl stay)))

  -- the function's number written into the pair 0, 1
  T_pair : (c : ℕ) (rest : List ℕ) → c < 32
      → Moves piece KindT (at (record w { at0 = c }) (c * 2 ^ 48) 10 rest)
      (moment q (record w { at0 = 4096 * c; at1 = 0 }) words false 0 11 rest)
  T_pair c rest h =
      let low : 4096 * c % 2 ^ 17 ≡ 4096 * c = omega arith in
      let high : 4096 * c / 2 ^ 18 ≡ 0 = omega arith in
      let middle : 4096 * c / 2 ^ 17 % 2 ≡ 0 = omega arith in
      let r = at (record w { at0 = c }) (c * 2 ^ 48) 10 rest in
      rw (low, high, middle) at (T {f = piece} {r = r} 10 (pair 0 0 refl) (4096 * c) refl (omega arith))

  -- a function row, from any accumulator
  pub function_path : (acc c : ℕ) (rest : List ℕ) → c < 32
      → Walk 5 (at w acc 6 (c ∷ rest)) (moment q (record w { at0 = 4096 * c; at1 = 0 }) words false 0 11 rest)
  function_path acc c rest h =
      on (T_top 6 (own 0) _ refl refl) refl
      (on (I 7 (own 0) c refl refl refl) refl
      (on (A 8 (own 0) (short c) refl (omega arith)) refl
      (on (R 9 R16F (c * 2 ^ 48) refl (omega arith)) refl
      (on (T_pair c rest h) refl stay))))

  -- a digit row
  pub digit_path : {c : ℕ} (u : ℕ) {rest : List ℕ} → c < 10 → 10 * w.at1 + c ≡ u → u ≤ 32767
      → Walk 10 (at w 0 11 (c ∷ rest)) (at (record w { at1 = u; at2 = c; at3 = 131062 + c }) 0 11 rest)
  digit_path {c} u h is fits =
      on (I 11 (own 2) c refl refl refl) refl
      (on (A 12 (own 2) (short c) refl (omega arith)) refl
      (on (S 13 (own 5) (short (131062 + c)) refl (omega arith)) refl
      (on (E_stays 14 (own 21) refl (omega arith)) refl
      (on (T 15 (own 3) _ refl refl) refl
      (on (V 16 (own 1) (5 * w.at1 * 2 ^ 50) refl (omega arith)) refl
      (on (L 17 L8F (short (10 * w.at1)) refl (omega arith)) refl
      (on (A 18 (own 2) (short u) refl (omega arith)) refl
      (on (T 19 (own 1) _ refl refl) refl
      (on (E_jumps 20 (own 11) refl (lit< tt)) refl stay)))))))))

  -- the ending row of an item, up to the order that places its word
  pub ending_path : (i : Item1) {rest : List ℕ} → w.at1 ≤ 32767
      → (w.at0 + 2 * w.at1 + digit i.long) % 2 ^ 17 ≡ word1 i
      → Walk 8 (at w 0 11 (ending_row i.long ∷ rest))
      (at (record w { at2 = ending_row i.long }) (with_word i) 25 rest)
  ending_path i small is =
      let l = digit i.long in
      let c = ending_row i.long in
      let u = word1 i in
      let low = bit i.long in
      let row = end_row i.long in
      on (I 11 (own 2) c refl refl refl) refl
      (on (A 12 (own 2) (short c) refl (omega arith)) refl
      (on (S 13 (own 5) (short (2 + 13 * l)) refl (omega arith)) refl
      (on (E_jumps 14 (own 21) refl (omega arith)) refl
      (on (R 21 R4F ((2 + 13 * l) * 2 ^ 50) refl (omega arith)) refl
      (on (A 22 (own 1) (short w.at1 + (2 + 13 * l) * 2 ^ 50) refl (omega arith)) refl
      (on (L 23 LD (with_row l (2 * w.at1 + l)) refl (omega arith)) refl
      (on (A 24 (own 0) (with_row l u) refl (omega arith)) refl stay)))))))

  -- the order at 25 places it at 31
  pub first_placed : (i : Item1) {rest : List ℕ} → w.at25 ≡ 20542
      → Walk 1 (at w (with_word i) 25 rest) (at (record w { at31 = word1 i }) 0 26 rest)
  first_placed i here =
      let low = bit i.long in on (T_top 25 (own 31) (word1 i) (word_is here) (omega arith)) refl stay

  -- or at a location a above it
  pub Walk-placed : (i : Item1) (a : ℕ) {rest : List ℕ} → w.at25 ≡ T_F + 2 * a → (32 ≤ a) × (a < 1024)
      → Walk 1 (at w (with_word i) 25 rest) (moment q w (set words a (word1 i)) digit0 0 26 rest)
  Walk-placed i a here range =
      let low = bit i.long in
      on (T_top 25 (out a (record { below = range.1; beside = inr range.0 })) (word1 i) (word_is here) (omega arith))
      refl stay

  -- the order at 25 becomes the next one, and is compared with the first word
  pub Walk-counted : {next : ℕ} (u : ℕ) {rest : List ℕ} → w.at25 + 2 ≡ next → (next < 2 ^ 17) × (u < 2 ^ 17)
      → (u + w.at31) % 2 ^ 17 ≡ next
      → Walk 4 (at w 0 26 rest) (at (record w { at25 = next }) (short u) 30 rest)
  Walk-counted {next} u rises range is =
      let fits = range.0 in
      let small = range.1 in
      on (A 26 (own 25) (short w.at25) refl (omega arith)) refl
      (on (A 27 (own 4) (short next) refl (omega arith)) refl
      (on (U 28 (own 25) next refl refl) refl
      (on (S 29 (own 31) (short u) refl (omega arith)) refl stay)))

  -- back to the rest at 6
  pub goes_back : (u : ℕ) (rest : List ℕ) → 2 ^ 16 ≤ u → Walk 1 (at w (short u) 30 rest) (at w (short u) 6 rest)
  goes_back u rest high = on (G_jumps 30 (own 6) refl (omega arith)) refl stay

  -- or on to the program
  pub goes_on : (rest : List ℕ) → ToProgram 1 (at w 0 30 rest) (at w 0 31 rest)
  goes_on rest = ends stay (G_stays 30 (own 6) refl (lit< tt)) refl
