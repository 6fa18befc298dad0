-- The induction over the items of a tape, between the rests at 6 and 11: from the first of the 31 orders to the
-- program.
use Rattle.ed_initial1.proofs.Kit.{T_F, short, append_assoc, AreDigits, number_le, [], arith, Bool, false, length, List}
use Rattle.ed_initial1.proofs.Kit.{lit<, lit≤, refl, set, suc, ℕ, ◌*◌, ◌++◌, ◌+◌, ◌<◌, ◌^◌, ◌∷◌, ◌≡◌, ◌≤◌}
use Rattle.ed_initial1.proofs.Kit.{digits_number, AreItems, costs1, ending_row, IsBegun1, IsFirst, Item1, item_number}
use Rattle.ed_initial1.proofs.Kit.{last_of, spelled_rows1, word1, words, rules}
use Rattle.std.proofs.Common.{◌-◌}
use Rattle.ed_initial1.proofs.Paths.{Walk, Walk-followed, stay, ToProgram, ToProgram-then, Working, Kept, moment}
use Rattle.ed_initial1.proofs.Paths.{with_word, start_path, function_path, digit_path, ending_path, first_placed}
use Rattle.ed_initial1.proofs.Paths.{Walk-placed, Walk-counted, goes_back, goes_on}

-- the rows of items with others after them
abbrev pub tape_of : List Item1 → List ℕ → List ℕ
tape_of [] rest = rest
tape_of (i ∷ is) rest = i.begun.function ∷ (i.begun.digits ++ (ending_row i.long ∷ tape_of is rest))

pub tape_is : (is : List Item1) (rest : List ℕ) → spelled_rows1 is ++ rest ≡ tape_of is rest
tape_is [] rest = refl
tape_is (i ∷ is) rest = search (rules, append_assoc, tape_is is rest)

-- what digit rows leave at 3
abbrev pub third : ℕ → List ℕ → ℕ
third y [] = y
third y (d ∷ ds) = third (131062 + d) ds

abbrev pub thirds : ℕ → List Item1 → ℕ
thirds y [] = y
thirds y (i ∷ is) = thirds (third y i.begun.digits) is

-- words placed from a location upwards
abbrev pub written : List ℕ → ℕ → List ℕ → List ℕ
written ws a [] = ws
written ws a (v ∷ vs) = written (set ws a v) (a + 1) vs

-- the orders of an item before the one at 25
abbrev pub head_cost : Item1 → ℕ
head_cost i = 5 + (10 * length i.begun.digits + 8)

-- what an item leaves in the words that change
abbrev pub left : Working → Item1 → Working
left w i = record w {
  at0 = 4096 * i.begun.function;
  at1 = item_number i;
  at2 = ending_row i.long;
  at3 = third w.at3 i.begun.digits;
}

-- the words that change at the entry
abbrev pub final : ℕ → ℕ → ℕ → Item1 → List Item1 → Working
final e y v i is = record {
  at0 = 4096 * (last_of i is).begun.function;
  at1 = item_number (last_of i is);
  at2 = ending_row (last_of i is).long;
  at3 = thirds y (i ∷ is);
  at25 = T_F + 2 * e;
  at31 = v;
}

-- T e S as a word
pub first_word : (e : ℕ) (i : Item1) → IsFirst e i → word1 i ≡ T_F + 2 * e
first_word e i first = search rules

module _ (q : Kept) where
  -- the digit rows of an item
  pub digit_walk : {ws : List ℕ} (w : Working) {b : Bool} (ds : List ℕ) {n x y : ℕ} {rest : List ℕ} → AreDigits ds
      → digits_number n ds ≤ 32767
      → Walk (10 * length ds) (moment q (record w { at1 = n; at2 = x; at3 = y }) ws b 0 11 (ds ++ rest))
      (moment q (record w { at1 = digits_number n ds; at2 = last_of x ds; at3 = third y ds }) ws b 0 11 rest)
  digit_walk w [] good fits = stay
  digit_walk {ws} w {b} (d ∷ ds) {n} {x} {y} good fits =
      let e : 10 * suc (length ds) ≡ 10 + 10 * length ds = omega arith in
      let now : Working = record w { at1 = n; at2 = x; at3 = y } in
      rw e (Walk-followed (digit_path q now ws b (10 * n + d) good.0 refl (omega (arith, number_le ds (10 * n + d))))
      (digit_walk w ds good.1 fits))

  -- an item from the rest at 6 to the order at 25
  pub head_walk : (ws : List ℕ) (w : Working) (b : Bool) (acc : ℕ) (i : Item1) (rest : List ℕ) → IsBegun1 i.begun
      → Walk (head_cost i) (moment q w ws b acc 6 (i.begun.function ∷ (i.begun.digits ++ (ending_row i.long ∷ rest))))
      (moment q (left w i) ws false (with_word i) 25 rest)
  head_walk ws w b acc i rest good =
      let ds = i.begun.digits in
      let begun : Working = record w { at0 = 4096 * i.begun.function } in
      let ended : Working = record begun { at1 = item_number i; at2 = last_of w.at2 ds; at3 = third w.at3 ds } in
      Walk-followed (function_path q w ws b acc i.begun.function (ds ++ (ending_row i.long ∷ rest)) good.function)
      (Walk-followed (digit_walk begun ds good.digits good.fits) (ending_path q ended ws false i good.fits refl))

  -- from the order at 26 to the program
  last_tail : (ws : List ℕ) (w : Working) (b : Bool) (e : ℕ) (rest : List ℕ) → w.at25 + 2 ≡ T_F + 2 * e
      → w.at31 ≡ T_F + 2 * e
      → e ≤ 1023 → ToProgram 5 (moment q w ws b 0 26 rest) (moment q (record w { at25 = T_F + 2 * e }) ws b 0 31 rest)
  last_tail ws w b e rest rises end most =
      ToProgram-then (Walk-counted q w ws b 0 rises (omega arith, lit< tt) (omega arith))
      (goes_on q (record w { at25 = T_F + 2 * e }) ws b rest)

  -- or back to the rest at 6: the accumulator holds the number of words still to come, as a negative number
  abbrev pub to_come : ℕ → ℕ → ℕ
  to_come a e = 2 ^ 17 - 2 * (e - a)

  pub back_tail : {ws : List ℕ} (w : Working) {b : Bool} (a e : ℕ) {rest : List ℕ} → w.at25 + 2 ≡ T_F + 2 * a
      → w.at31 ≡ T_F + 2 * e → a < e → e ≤ 1023
      → Walk 5 (moment q w ws b 0 26 rest)
      (moment q (record w { at25 = T_F + 2 * a }) ws b (short (to_come a e)) 6 rest)
  back_tail {ws} w {b} a e {rest} rises end less most =
      Walk-followed (Walk-counted q w ws b (to_come a e) rises (omega arith, omega arith) (omega arith))
      (goes_back q (record w { at25 = T_F + 2 * a }) ws b (to_come a e) rest (omega arith))

  -- the items after an item whose word is placed: the next word goes to a, and the words reach up to e
  rest_path : {ws : List ℕ} (w : Working) {a e : ℕ} (i : Item1) (is : List Item1) {rest : List ℕ} → AreItems is
      → w.at25 + 2 ≡ T_F + 2 * a → w.at31 ≡ T_F + 2 * e → 32 ≤ a → a + length is ≡ e → e ≤ 1023
      → ToProgram (5 + costs1 is) (moment q (left w i) ws false 0 26 (tape_of is rest))
      (moment q (final e w.at3 w.at31 i is) (written ws a (words is)) false 0 31 rest)
  rest_path {ws} w {a} {e} i [] {rest} good rises end low count most =
      last_tail ws (left w i) false e rest (omega arith) end most
  rest_path {ws} w {a} {e} i (j ∷ js) {rest} good rises end low count most =
      let cost : 5 + costs1 (j ∷ js) ≡ 5 + (head_cost j + (1 + (5 + costs1 js))) = omega arith in
      let v : Working = record (left w i) { at25 = T_F + 2 * a } in
      rw cost (ToProgram-then (back_tail (left w i) a e rises end (omega arith) most)
      (ToProgram-then (head_walk ws v false (short (to_come a e)) j (tape_of js rest) good.0)
      (ToProgram-then (Walk-placed q (left v j) ws false j a refl (low, omega arith))
      (rest_path {ws = set ws a (word1 j)} v {a = a + 1} j js good.1 (omega arith) end (omega arith) (omega arith)
      most))))

  -- the whole tape, beginning at the first order
  pub whole_path : {ws : List ℕ} (w : Working) {b : Bool} {acc multiplier e : ℕ} (i : Item1) (is : List Item1)
      {rest : List ℕ} → AreItems (i ∷ is) → w.at25 ≡ 20542 → IsFirst e i → 31 + length (i ∷ is) ≡ e
      → ToProgram (4 + costs1 (i ∷ is))
      (record (moment q (record w { at0 = T_F; at1 = 86020; at2 = T_F; at3 = 12300 }) ws b acc 0
      (tape_of (i ∷ is) rest))
      { multiplier = multiplier })
      (moment q (final e 12300 (word1 i) i is) (written ws 32 (words is)) false 0 31 rest)
  whole_path {ws} w {b} {acc} {multiplier} {e} i is {rest} good next first count =
      let started : Working = record w { at0 = 0; at1 = 86020; at2 = T_F; at3 = 12300 } in
      let cost : 4 + costs1 (i ∷ is) ≡ 4 + (head_cost i + (1 + (5 + costs1 is))) = omega arith in
      rw cost (ToProgram-then (start_path q w ws b acc multiplier (tape_of (i ∷ is) rest))
      (ToProgram-then (head_walk ws started b 0 i (tape_of is rest) good.0)
      (ToProgram-then (first_placed q (left started i) ws false i next)
      (rest_path (record started { at31 = word1 i }) {a = 32} i is good.1 (omega arith) (first_word e i first) (lit≤ tt)
      (omega arith) first.high))))
