-- The store at the entry of `demo`: the words of the program and of `print`, and after them the words of all
-- segments, one after the other.
use Rattle.ed_sources.proofs.Kit.{sum_by-cons, A_F, Size, Line, codes, nat_eq, take, list_all, image_word}
use Rattle.ed_sources.proofs.Kit.{parameter_store, Definition, counter, unwrap_or, linked_words, placed_words}
use Rattle.ed_sources.proofs.Kit.{symbols_of, [], ap, arith, get_or, inl, length, List, lit<, lit≤, refl, suc}
use Rattle.ed_sources.proofs.Kit.{true, zero, ℕ, ◌*◌, ◌++◌, ◌+◌, ◌<◌, ◌∙◌, ◌∷◌, ◌≡◌, ◌≤◌, short_at, place_count, print}
use Rattle.ed_sources.proofs.Kit.{with_h, entry_of, entry_state, next, number_after, number_word, words_after}
use Rattle.std.proofs.Common.{sum, rules}
use Rattle.ed_link.specs.Linked.{entry_from, placed_from}
use Rattle.ed_sources.proofs.AtEntry.{have_places}
use Rattle.ed_sources.proofs.Blocks.{beside_block, block_places, front_word, in_block, last_at, order_at, rest_word}
use Rattle.ed_sources.proofs.Decimals.{numbers}
use Rattle.ed_sources.proofs.DemoFaultless.{lines_behind, lines_with}
use Rattle.ed_sources.proofs.DemoLoop.{StandFrom}
use Rattle.ed_sources.proofs.SaidDemo.{enter_line, segment_forms}

-- ---- the words of the sequence

-- the words of more numbers are those of the first, and then those of the others
pub more_words : (a b x : ℕ) → words_after (a + b) x ≡ words_after a x ++ words_after b (number_after a x)
more_words zero b x = ap (λ k. words_after k x) (omega arith)
more_words (suc a) b x =
    let e : suc a + b ≡ suc (a + b) = omega arith in
    ap (λ k. words_after k x) e ∙ ap (λ (ws : List ℕ). number_word (next x) ∷ ws) (more_words a b (next x))

pub count_words : (n x : ℕ) → length (words_after n x) ≡ n
count_words zero x = refl
count_words (suc n) x = ap suc (count_words n (next x))

-- their sum is at most 63 for each
pub small_sum : (n x : ℕ) → sum (words_after n x) ≤ 63 * n
small_sum zero x = lit≤ tt
small_sum (suc n) x = search (rules, sum_by-cons, small_sum n (next x))

-- ---- what the lines of words and segments place

segments_laid : (symbols : List Definition) (n k l x m p b g : ℕ)
    → placed_from symbols (counter p b g) (segment_forms n k l x ++ enter_line m ∷ [])
    ≡ placed_words p (words_after (8 * n) x)
segments_laid symbols zero k l x m p b g = refl
segments_laid symbols (suc n) k l x m p b g =
    let e : 8 * suc n ≡ 8 + 8 * n = omega arith in
    rw (e, more_words 8 (8 * n) x, segments_laid symbols n (k + 1) (l + 9) (number_after 8 x) m _ p (g + 1)) refl

-- they have no entry but the last line
segments_entry : (symbols : List Definition) (n k l x : ℕ) (rest : List Line)
    → entry_from symbols (segment_forms n k l x ++ rest) ≡ entry_from symbols rest
segments_entry symbols zero k l x rest = refl
segments_entry symbols (suc n) k l x rest = segments_entry symbols n (k + 1) (l + 9) (number_after 8 x) rest

-- ---- the store at the entry, if n segments follow the first

module _ (words n x l : ℕ) where
  abbrev pub lines : List Line
  lines = lines_with (codes "s1") words n x l

  abbrev pub items : List ℕ
  items = words_after (8 * suc n) x

  -- the words before those of the segments
  abbrev pub front : List (ℕ × ℕ)
  front = take 68 (linked_words lines)

  rest_is : placed_from (symbols_of lines) (counter 123 123 3) (lines_behind n x l) ≡ placed_words 123 items
  rest_is =
      let e : 8 * suc n ≡ 8 + 8 * n = omega arith in
      rw (e, more_words 8 (8 * n) x, segments_laid (symbols_of lines) n 2 28 (number_after 8 x) l 131 123 3) refl

  parts : linked_words lines ≡ front ++ placed_words 123 items
  parts = ap (λ (ps : List (ℕ × ℕ)). front ++ ps) rest_is

  front_places : have_places front ≡ true
  front_places = refl

  pub length-long : length items ≡ 8 * suc n
  length-long = count_words (8 * suc n) x

  pub print_image : list_all (λ i. nat_eq (unwrap_or (last_at front (72 + i)) 0) (image_word print i 72 (with_h 71)))
      (numbers 0 (place_count print)) ≡ true
  unfolding parameter_store
  print_image = refl

  -- the order at `stop`
  pub stop_word : words ≤ 900 → unwrap_or (last_at front 69) 0 ≡ A_F + 2 * (123 + words)
  stop_word few = order_at 28 (123 + words) (lit< tt) (omega arith)

  -- it is entered at its first order
  pub entry_is : entry_of lines ≡ 56
  entry_is = segments_entry (symbols_of lines) n 2 28 (number_after 8 x) (enter_line l ∷ [])

  module _ (z : Size) (few : n ≤ 111) where
    rest_places : have_places (placed_words 123 items) ≡ true
    rest_places = let count = length-long in block_places 123 items (omega arith)

    -- a word of the program or of `print`
    pub early_word : (a : ℕ) → 44 ≤ a → a < 123
        → short_at (entry_state z lines).store a ≡ unwrap_or (last_at front a) 0
    early_word a low high =
        front_word z lines front (placed_words 123 items) parts front_places rest_places a low (omega arith)
        (beside_block 123 items a (inl high))

    -- the words of the segments
    stand_from : (cs : List ℕ) (k : ℕ) → ((j : ℕ) → j < length cs → get_or items (k + j) 0 ≡ get_or cs j 0)
        → k + length cs ≡ length items → StandFrom (entry_state z lines).store.words (123 + k) cs
    stand_from [] k same whole = tt
    stand_from (c ∷ cs) k same whole =
        let count = length-long in
        let next : 123 + k + 1 ≡ 123 + (k + 1) = omega arith in (
          rest_word z lines front (placed_words 123 items) parts front_places rest_places (123 + k) (omega arith)
              (omega arith)
              (in_block 123 items k (omega arith))
              ∙ ap (λ j. get_or items j 0) (omega arith)
              ∙ same 0 (omega arith),
          rw next (stand_from cs (k + 1)
              (λ j l. ap (λ i. get_or items i 0) (omega arith) ∙ same (suc j) (omega arith)) (omega arith)),
        )

    pub words_stand : StandFrom (entry_state z lines).store.words 123 items
    words_stand = stand_from items 0 (λ j l. ap (λ i. get_or items i 0) (omega arith)) (omega arith)
