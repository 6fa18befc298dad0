-- What the fold does at the items of the words of a line in a segment.
use Rattle.ed_link.proofs.Kit.{reverse, reverse-append, T_F, Size, word_with, AreSpellable, Item, Letter, [], ap}
use Rattle.ed_link.proofs.Kit.{append_assoc, arith, Bool, false, inr, length, List, nat_eq, refl, suc, sym, true, ℕ}
use Rattle.ed_link.proofs.Kit.{◌%◌, ◌*◌, ◌++◌, ◌+◌, ◌<◌, ◌∙◌, ◌∷◌, ◌≡◌, ◌≤◌, eqb-true, leb-true, locations, digit}
use Rattle.ed_link.proofs.Kit.{locations_most, item_word, NotationState, row_kind, is_spellable, Does-placing}
use Rattle.ed_link.proofs.Kit.{Operand, map, ◌^◌, segment_at, LocationCounter, Definition, operand_number}
use Rattle.ed_link.proofs.Kit.{placed_words, goes_by_theta, order_item, with_heading, word_item}
use Rattle.ed_link.proofs.Passes.{Passes, stays, goes, Passes-join, at, Passes-heading}
use Rattle.ed_link.proofs.Kit.{rules, nat_tests}

-- items that can be spelled, in two parts
pub AreSpellable-split : (is js : List Item) → AreSpellable (is ++ js) → AreSpellable is × AreSpellable js
AreSpellable-split [] js are = (tt, are)
AreSpellable-split (i ∷ is) js are = let s = AreSpellable-split is js are.1 in ((are.0, s.0), s.1)

-- words one after the other

word_is : (words : List ℕ) (notation : NotationState) (w : ℕ) (odd : Bool) → nat_eq (w % 2) 1 ≡ odd → w < 2 ^ 17
    → (item_word words notation (word_item w) ≡ w) × (row_kind (word_item w).end ≡ Letter)
word_is words notation w odd e h = search rules

-- a word is below 2^17
small : (w : ℕ) → is_spellable (word_item w) ≡ true → w < 2 ^ 17
small w h = grind (arith, nat_tests)

-- what is placed first is last in the list
pub placed_more : (p : ℕ × ℕ) (ps m : List (ℕ × ℕ)) → reverse ps ++ (p ∷ m) ≡ reverse (p ∷ ps) ++ m
placed_more p ps m = sym (ap (λ x. x ++ m) (reverse-append (p ∷ []) ps) ∙ append_assoc (reverse ps) (p ∷ []) m)

-- words one after the other are placed in consecutive locations
pub laid_pass : {z : Size} {words : List ℕ} {placed : List (ℕ × ℕ)} (base : ℕ) (ws : List ℕ) (place : ℕ)
    → AreSpellable (map word_item ws) → 44 ≤ place → place + length ws ≤ locations z
    → Passes z words (at place base placed) (map word_item ws)
    (at (place + length ws) base (reverse (placed_words place ws) ++ placed))
laid_pass base [] place are low high = let e : place + 0 ≡ place = omega arith in rw e stays
laid_pass {z} {words} {placed} base (w ∷ ws) place are low high =
    let k = word_is words (at place base placed) w _ refl (small w are.0) in
    let e : place + suc (length ws) ≡ place + 1 + length ws = omega arith in
    let r = laid_pass {placed = (place, w) ∷ placed} base ws (place + 1) are.1 (omega arith) (omega arith) in
    goes (Does-placing z words place k.1 refl low (omega arith) k.0) (inr k.1)
    (rw (e, ← (placed_more (place, w) (placed_words (place + 1) ws) placed)) r)

-- an order

theta_base : (symbols : List Definition) (s : LocationCounter) (o : Operand) → goes_by_theta symbols s o ≡ true
    → s.base ≤ operand_number symbols (segment_at s) o
theta_base symbols s o h = search (rules, leb-true)

-- it ends with a code letter
order_letter : (b : Bool) (base f n : ℕ) (long : Bool)
    → row_kind (order_item b base f n long).end ≡ Letter
order_letter b base f n long = search rules

-- an order is placed
pub order_pass : {z : Size} {words : List ℕ} {placed : List (ℕ × ℕ)} (symbols : List Definition)
    (s : LocationCounter) (f : ℕ)
    (o : Operand) (long : Bool)
    → 44 ≤ s.place → s.place < locations z
    → Passes z words (at s.place s.base placed)
    (order_item (goes_by_theta symbols s o) s.base f (operand_number symbols (segment_at s) o) long ∷ [])
    (at (s.place + 1) s.base ((s.place, word_with f (operand_number symbols (segment_at s) o) false (digit long)) ∷
    placed))
order_pass {z} {words} {placed} symbols s f o long low high =
    let n = operand_number symbols (segment_at s) o in
    let b = goes_by_theta symbols s o in
    let letter = order_letter b s.base f n long in
    goes (Does-placing z words s.place letter refl low high (its_word n b long (theta_base symbols s o))) (inr letter)
    stays
  where
    -- its word, by θ or by its number
    its_word : (n : ℕ) (b long : Bool) → (b ≡ true → s.base ≤ n)
        → item_word words (at s.place s.base placed) (order_item b s.base f n long) ≡ word_with f n false (digit long)
    its_word n b long h = search rules

-- items after the head of their segment

pub headed_pass : {z : Size} {words : List ℕ} {notation last : NotationState} {is : List Item} (place base : ℕ)
    (first : Bool)
    → nat_eq place base ≡ first → place < locations z → 0 < length is
    → (first ≡ false → (notation.directive ≡ T_F + 2 * place) × (notation.theta ≡ 2 * base))
    → Passes z words (at place base notation.placed) is last → Passes z words notation (with_heading is first base) last
headed_pass {z} {is = i ∷ is} place base true e high some follows p =
    let m = locations_most z in
    let q : place ≡ base = eqb-true _ _ e in
    Passes-join (Passes-heading base (omega arith)) (rw q at p)
headed_pass place base first e high some follows p = search rules

-- items after a head can be spelled
pub AreSpellable-unheaded : (is : List Item) (first : Bool) (base : ℕ)
    → AreSpellable (with_heading is first base) → AreSpellable is
AreSpellable-unheaded is first base are = search rules
