-- What reading the tape of `demo` costs: its program, the heads of its segments, and its words.
use Rattle.ed_sources.proofs.Kit.{sum_by, sum_by-append, sum_by-cons, Item, Line, codes, None, take, ◌||◌}
use Rattle.ed_sources.proofs.Kit.{Definition, counter, eq-eqb, ne_eqb, symbols_of, item_with, punched_items}
use Rattle.ed_sources.proofs.Kit.{word_item, item_cost, [], ap, arith, Bool, drop, false, if◌then◌else◌, List, nat_lt}
use Rattle.ed_sources.proofs.Kit.{refl, Some, suc, zero, ℕ, ◌*◌, ◌++◌, ◌+◌, ◌<◌, ◌∙◌, ◌∷◌, ◌≡◌, ◌≤◌, cost}
use Rattle.ed_sources.proofs.Kit.{word_cost, next, number_after, number_word, words_after}
use Rattle.ed_link.proofs.Kit.{place_on, head, heads, punched_from}
use Rattle.ed_sources.specs.Costs.{heads_cost}
use Rattle.ed_sources.proofs.DemoFaultless.{lines_behind, lines_with}
use Rattle.ed_sources.proofs.DemoPlaced.{more_words}
use Rattle.ed_sources.proofs.SaidDemo.{enter_line, segment_forms, word_forms}
use Rattle.ed_sources.proofs.WordCosts.{cost_around}
use Rattle.std.proofs.lemmas.Grind.{common_steps}
use Rattle.std.proofs.Common.{rules}

-- the item of a word, with those before it if it is the first of its segment, and with others after it
one_word : (first : Bool) (base w : ℕ) (others : List Item)
    → sum_by item_cost ((heads first base ++ word_item w ∷ []) ++ others)
    ≡ sum_by item_cost (heads first base) + word_cost w + sum_by item_cost others
one_word first base w others = grind (arith, common_steps)

module _ (symbols : List Definition) where
  -- words after the first of their segment
  words_cost : (n l x p b g : ℕ) (rest : List Line) (k : ℕ) → b < p
      → ((q : ℕ) → q ≡ p + n → sum_by item_cost (punched_from symbols (counter q b g) rest) ≡ k)
      → sum_by item_cost (punched_from symbols (counter p b g) (word_forms n l x ++ rest))
      ≡ sum_by word_cost (words_after n x) + k
  words_cost zero l x p b g rest k later tail = let e = tail p (omega arith) in e ∙ omega arith
  words_cost (suc n) l x p b g rest k later tail =
      let other = ne_eqb p b (omega arith) in
      let none = ap (λ t. sum_by item_cost (heads t b)) other in
      let more =
      words_cost n (l + 1) (next x) (p + 1) b g rest k (omega arith) (λ q at. tail q (omega (arith, at))) in
      let words = sum_by-cons word_cost (number_word (next x)) (words_after n (next x)) in
      search (rules, one_word)

  -- the words of a segment, with its head
  segment_cost : (n l x p g : ℕ) (rest : List Line) (k : ℕ)
      → ((q : ℕ) → q ≡ p + suc n → sum_by item_cost (punched_from symbols (counter q p g) rest) ≡ k)
      → sum_by item_cost (punched_from symbols (counter p p g) (word_forms (suc n) l x ++ rest))
      ≡ sum_by item_cost (head p) + sum_by word_cost (words_after (suc n) x) + k
  segment_cost n l x p g rest k tail =
      let first = eq-eqb p p refl in
      let begun = ap (λ t. sum_by item_cost (heads t p)) first in
      let more =
      words_cost n (l + 1) (next x) (p + 1) p g rest k (omega arith) (λ q at. tail q (omega (arith, at))) in
      let words = sum_by-cons word_cost (number_word (next x)) (words_after n (next x)) in
      search (rules, one_word)

  -- a segment of 8 words before n others
  segment_before : (n l x p g : ℕ) (rest : List Line)
      → ((q : ℕ) → sum_by item_cost (punched_from symbols (counter q p g) rest)
      ≡ heads_cost n q + sum_by word_cost (words_after (8 * n) (number_after 8 x)) + 63)
      → sum_by item_cost (punched_from symbols (counter p p g) (word_forms 8 l x ++ rest))
      ≡ heads_cost (suc n) p + sum_by word_cost (words_after (8 * suc n) x) + 63
  segment_before n l x p g rest tail =
      let e : 8 * suc n ≡ 8 + 8 * n = omega arith in
      let others : ℕ = sum_by word_cost (words_after (8 * n) (number_after 8 x)) in
      let words = ap (λ j. sum_by word_cost (words_after j x)) e
      ∙ ap (λ (ws : List ℕ). sum_by word_cost ws) (more_words 8 (8 * n) x)
      ∙ sum_by-append word_cost (words_after 8 x) (words_after (8 * n) (number_after 8 x)) in
      segment_cost 7 l x p g rest (heads_cost n (p + 8) + others + 63)
      (λ q at. tail q ∙ ap (λ j. heads_cost n j + others + 63) at)
      ∙ omega (arith, words)

  -- n segments and the line that enters
  segments_cost : place_on symbols None (codes "main") ≡ Some 56 → (n k l x m p b g : ℕ)
      → sum_by item_cost (punched_from symbols (counter p b g) (segment_forms n k l x ++ enter_line m ∷ []))
      ≡ heads_cost n p + sum_by word_cost (words_after (8 * n) x) + 63
  segments_cost main zero k l x m p b g = search rules
  segments_cost main (suc n) k l x m p b g =
      segment_before n (l + 1) x p (g + 1) (segment_forms n (k + 1) (l + 9) (number_after 8 x) ++ enter_line m ∷ [])
      (λ q. segments_cost main n (k + 1) (l + 9) (number_after 8 x) m q p (g + 1))

-- with n segments after the first
module _ (words n x l : ℕ) where
  abbrev lines : List Line
  lines = lines_with (codes "s1") words n x l

  -- the items of the program and of `print`: those before the order at `stop`, that order, and those after it
  abbrev before : List Item
  before = take 15 (punched_items lines)

  abbrev number : ℕ
  number = if nat_lt (123 + words) 0 || nat_lt 32767 (123 + words) then 0 else 123 + words

  abbrev at_stop : Item
  at_stop = item_with 28 number false 17

  number_is : words ≤ 900 → number ≡ 123 + words
  number_is few = grind (arith, common_steps)

  abbrev between : List Item
  between = drop 16 (take 73 (punched_items lines))

  abbrev rest : List Item
  rest = punched_from (symbols_of lines) (counter 123 123 3) (lines_behind n x l)

  parts : punched_items lines ≡ before ++ at_stop ∷ (between ++ rest)
  parts = refl

  program_cost : sum_by item_cost before + sum_by item_cost between ≡ 2659
  program_cost = refl

  rest_cost : sum_by item_cost rest ≡ heads_cost (suc n) 123 + sum_by word_cost (words_after (8 * suc n) x) + 63
  rest_cost =
      segment_before (symbols_of lines) n 20 x 123 3 (segment_forms n 2 28 (number_after 8 x) ++ enter_line l ∷ [])
      (λ q. segments_cost (symbols_of lines) refl n 2 28 (number_after 8 x) l q 123 3)

  pub cost_is : words ≤ 900 → cost lines
      ≡ 2727 + item_cost (item_with 28 (123 + words) false 17) + heads_cost (suc n) 123
      + sum_by word_cost (words_after (8 * suc n) x)
  cost_is few =
      let all = ap (λ (is : List Item). sum_by item_cost is) parts ∙ cost_around before at_stop (between ++ rest) in
      let behind = sum_by-append item_cost between rest in
      let fixed = program_cost in
      let others = rest_cost in
      let stop = ap (λ k. item_cost (item_with 28 k false 17)) (number_is few) in
      omega (arith, all, behind, fixed, others, stop)
