-- A source that ends with a text of any length, the routine `newline` after it, and its entry at 56: it has no fault
-- there, and where its words stand at the entry.
use Rattle.ed_programs.proofs.Kit.{Size, Line, array, Definition, are_below, ExtentList, past, entry, routine_word}
use Rattle.ed_programs.proofs.Kit.{table_item, place_on, even_from, extent, fault_from, have_places, frame_at, [], ap}
use Rattle.ed_programs.proofs.Kit.{append-nil, arith, codes, get_or, inl, inr, length, List, map, nat_lt, None, refl}
use Rattle.ed_programs.proofs.Kit.{reverse, rules, Some, suc, sym, true, unwrap_or, ℕ, ◌*◌, ◌++◌, ◌+◌, ◌<◌, ◌∙◌, ◌∷◌}
use Rattle.ed_programs.proofs.Kit.{◌≡◌, ◌≤◌, list_all, and_parts, ltb-true, length-map, list_all-append, Text}
use Rattle.ed_programs.proofs.Kit.{locations_least, placed_at, image_word, parameter_store, linked_words, counter}
use Rattle.ed_programs.proofs.Kit.{newline, HasRoutine, entry_state, said}
use Rattle.std.proofs.lemmas.List.{get_or-map}
use Rattle.ed_link.specs.Linked.{placed_words}
use Rattle.ed_link.proofs.Extents.{none_later, one_more}
use Rattle.ed_sources.proofs.Blocks.{beside_block, block_places, in_block, last_append, last_at, last_is, or_else}
use Rattle.ed_sources.proofs.Blocks.{word_of}
use Rattle.ed_programs.proofs.Faults.{block_sound, enter_sound, use_sound}
use Rattle.ed_lines.specs.declared.program.Statement.TheVariants as statements

-- ---- faults

-- the last lines: the text, the routine, and the entry
abbrev pub last_lines : ℕ → Text → List ℕ → Text → Text → List Line
last_lines k label rows name main =
    said k (Some label) (statements.Text (array rows))
    ∷ said (k + 1) None (statements.Fetch (codes "newline") name (array []))
    ∷ said (k + 1 + 1) None (statements.Enter main)
    ∷ []

-- they have none, where the lines before them have these extents, which end at p
pub text_sound : (z : Size) (symbols : List Definition) (extents : ExtentList) (p b g k : ℕ) (label name main : Text)
    (rows : List ℕ) → 56 ≤ p → p + length rows ≤ 500 → are_below p extents ≡ true → place_on symbols None main ≡ Some 56
    → fault_from z symbols true (past extents) (counter p b g) (last_lines k label rows name main) ≡ None
text_sound z symbols extents p b g k label name main rows low high first place =
    let size = locations_least z in
    let n : ℕ = length rows in
    let w : ℕ = even_from (p + n) in
    let second = one_more p p (p + n) extents (omega arith) first in
    let third = one_more (p + n) w (w + 7) (extents ++ extent p (p + n) ∷ []) (omega arith) second in
    none_later k _ _ (block_sound z symbols extents k p b g (Some label) rows (omega arith) (omega arith) first)
    (none_later (k + 1) _ _
    (use_sound z symbols (extents ++ extent p (p + n) ∷ []) (k + 1) (p + n) b g (codes "newline") name []
    (omega arith) (omega arith) second refl refl)
    (none_later (k + 1 + 1) _ _
    (enter_sound z symbols ((extents ++ extent p (p + n) ∷ []) ++ extent w (w + 7) ∷ []) (k + 1 + 1) (w + 7) w
    (g + 1) 56 main place (omega arith) (omega arith) third)
    refl))

-- ---- the entry

-- the words of `newline` as a source lays them, at w
abbrev pub newline_words : ℕ → List ℕ
newline_words w = map (λ row. routine_word (0 ∷ 0 ∷ 0 ∷ 0 ∷ 0 ∷ 0 ∷ []) w (table_item row)) (entry newline).items

newline_is : (w i : ℕ) → i < 7 → get_or (newline_words w) i 0 ≡ image_word newline i w []
unfolding parameter_store
newline_is w i l = search rules

-- the codes stand in words from a place on, each at the head of its word
abbrev pub Spells : List ℕ → ℕ → List ℕ → Type 0
Spells ws q [] = Unit {0}
Spells ws q (c ∷ cs) = (get_or ws q 0 ≡ 4096 * c) × (c < 32) × Spells ws (q + 1) cs

-- the words of the text and of the routine, from the place p on
abbrev pub text_words : ℕ → List ℕ → List (ℕ × ℕ)
text_words p rows =
    placed_words p (map (λ c. 4096 * c) rows) ++ (placed_words (even_from (p + length rows))
    (newline_words (even_from (p + length rows))) ++ [])

module _ (z : Size) (lines : List Line) (p : ℕ) (rows : List ℕ) (low : 56 ≤ p) (high : p + length rows ≤ 500)
    (front : List (ℕ × ℕ)) (are : linked_words lines ≡ front ++ text_words p rows)
    (fit : have_places front ≡ true) where
  abbrev w : ℕ
  w = even_from (p + length rows)

  abbrev ws : List ℕ
  ws = (entry_state z lines).store.words

  abbrev codes_in : List ℕ
  codes_in = map (λ c. 4096 * c) rows

  rest_at : (a : ℕ) → last_at (text_words p rows) a
      ≡ or_else (last_at (placed_words w (newline_words w)) a) (last_at (placed_words p codes_in) a)
  rest_at a = search (rules, last_append, append-nil)

  rest_places : have_places (text_words p rows) ≡ true
  rest_places = search (rules, length-map, block_places, list_all-append, append-nil)

  word_at_entry : (a : ℕ) → 44 ≤ a → a < 1024
      → get_or ws a 0 ≡ unwrap_or (or_else (or_else (last_at (placed_words w (newline_words w)) a)
      (last_at (placed_words p codes_in) a)) (last_at front a)) 0
  word_at_entry a from below =
      word_of z lines front (text_words p rows) are fit rest_places a from below
      ∙ ap (λ o. unwrap_or (or_else o (last_at front a)) 0) (rest_at a)

  -- the words before the text
  pub before_text : (a : ℕ) → 44 ≤ a → a < p → get_or ws a 0 ≡ unwrap_or (placed_at (reverse front) a) 0
  before_text a from l =
      let first = beside_block p codes_in a (inl l) in
      let second = beside_block w (newline_words w) a (inl (omega arith)) in
      word_at_entry a from (omega arith)
      ∙ (λ i. unwrap_or (or_else (or_else (second i) (first i)) (last_at front a)) 0)
      ∙ ap (λ o. unwrap_or o 0) (sym (last_is front a))

  spells_from : (cs : List ℕ) (k : ℕ) → ((j : ℕ) → j < length cs → get_or rows (k + j) 0 ≡ get_or cs j 0)
      → k + length cs ≡ length rows → list_all (λ c. nat_lt c 32) cs ≡ true → Spells ws (p + k) cs
  spells_from [] k same long small = tt
  spells_from (c ∷ cs) k same long small =
      let t = and_parts (nat_lt c 32) (list_all (λ c. nat_lt c 32) cs) small in
      let here = beside_block w (newline_words w) (p + k) (inl (omega arith)) in
      let block = in_block p codes_in k (let e = length-map rows (λ c. 4096 * c) in omega arith) in
      let first : get_or rows k 0 ≡ c = ap (λ j. get_or rows j 0) (omega arith) ∙ same 0 (omega arith) in
      let next : p + k + 1 ≡ p + (k + 1) = omega arith in (
        word_at_entry (p + k) (omega arith) (omega arith)
            ∙ (λ i. unwrap_or (or_else (or_else (here i) (block i)) (last_at front (p + k))) 0)
            ∙ get_or-map (λ c. 4096 * c) rows k 0 0 (omega arith)
            ∙ ap (λ x. 4096 * x) first,
        ltb-true c 32 t.0,
        rw next (spells_from cs (k + 1) (λ j l. ap (λ x. get_or rows x 0) (omega arith) ∙ same (suc j) (omega arith))
            (omega arith) t.1),
      )

  -- the text
  pub text_stands : list_all (λ c. nat_lt c 32) rows ≡ true → Spells ws p rows
  text_stands small =
      let e : p + 0 ≡ p = omega arith in
      rw⁻¹ e (spells_from rows 0 (λ j l. ap (λ x. get_or rows x 0) (omega arith)) (omega arith) small)

  -- and `newline` after it, for a program of n cells before it
  pub newline_after : {n : ℕ} (few : n ≤ 456) → 56 + n ≤ p → HasRoutine (frame_at n z few) ws newline w []
  newline_after few under = record {
    low = omega arith;
    fits = let size = locations_least z in omega arith;
    reached = let size = locations_least z in omega arith;
    apart = inr (omega arith);
    at2 = refl;
    at3 = refl;
    image = λ i l free.
        let here = in_block w (newline_words w) i l in
        word_at_entry (w + i) (omega arith) (omega arith)
        ∙ (λ j. unwrap_or (or_else (or_else (here j) (last_at (placed_words p codes_in) (w + i)))
        (last_at front (w + i))) 0)
        ∙ newline_is w i l;
  }
