-- Items that place words one after the other, as the fold takes them: a segment's words, a routine, a whole tape.
use Rattle.ed_notation.proofs.Kit.{[], Bool, drop, false, length, List, refl, set, suc, take, true, ℕ, ◌&&◌, ◌++◌, ◌+◌}
use Rattle.ed_notation.proofs.Kit.{◌<◌, ◌∷◌, ◌≡◌, ◌≤◌, and_parts, get_or-set_other, locations, T_F, Size, ap, arith}
use Rattle.ed_notation.proofs.Kit.{get_or, sym, ◌*◌, ◌∙◌, begun_cost, item_word, NotationState, over, row_kind}
use Rattle.ed_notation.proofs.Kit.{canonical, is_spellable, Item, RowKind, Letter, append_assoc, add-zero}
use Rattle.std.proofs.lemmas.Bool.Decides.{nat_tests}
use Rattle.std.proofs.lemmas.List.{drop-set-lt, take_more_set, take-append-drop}
use Rattle.ed_notation.specs.Fold.{value_of, word_with}
use Rattle.ed_notation.proofs.Contents.{length-over}
use Rattle.ed_notation.proofs.Steps.{Reads, reads_none, reads_one, Does-placing, placing_cost}

-- a code letter
abbrev pub is_letter : RowKind → Bool
is_letter Letter = true
is_letter kind = false

-- items that can be spelled and end with a code letter
abbrev pub all_letters : List Item → Bool
all_letters [] = true
all_letters (i ∷ is) = (is_spellable i && is_letter (row_kind i.end)) && all_letters is

letter_of : (k : RowKind) → is_letter k ≡ true → k ≡ Letter
letter_of Letter h = refl
letter_of kind h = cc

code_of : (c : ℕ) → row_kind c ≡ Letter → c < 32
code_of c h = grind (arith, nat_tests)

-- the words that items place, by θ and by the words below 56, which hold the values of the letters
abbrev pub block : List ℕ → ℕ → List Item → List ℕ
block contents theta [] = []
block contents theta (i ∷ is) = word_with i.function i.number i.mark (value_of contents theta i.end)
    ∷ block contents theta is

-- words placed one after the other from a location upwards
abbrev pub laid : ℕ → List ℕ → List (ℕ × ℕ) → List (ℕ × ℕ)
laid a [] placed = placed
laid a (w ∷ ws) placed = laid (a + 1) ws ((a, w) ∷ placed)

-- the orders that read items which place words
abbrev pub block_cost : List Item → ℕ
block_cost [] = 0
block_cost (i ∷ is) = begun_cost (canonical i).begun + 17 + block_cost is

-- a store with words laid over it from a location upwards
abbrev pub with_block : List ℕ → ℕ → List ℕ → List ℕ
with_block words a ws = take a words ++ (ws ++ drop (a + length ws) words)

set_block : (xs : List ℕ) (a w : ℕ) (ws : List ℕ) → a < length xs
    → with_block (set xs a w) (a + 1) ws ≡ with_block xs a (w ∷ ws)
set_block xs a w ws h =
    let n : a + 1 + length ws ≡ a + suc (length ws) = omega arith in
    rw (
      take_more_set xs a w h,
      drop-set-lt (a + 1 + length ws) xs a w (omega arith),
      append_assoc (take a xs) (w ∷ []) (ws ++ drop (a + 1 + length ws) xs),
      n,
    ) refl

none_laid : (xs : List ℕ) (a : ℕ) → with_block xs a [] ≡ xs
none_laid xs a = rw (add-zero a) (take-append-drop a xs)

-- words laid one after the other are in the store in that order
pub over_laid : (words : List ℕ) (a : ℕ) (ws : List ℕ) (placed : List (ℕ × ℕ)) → a + length ws ≤ length words
    → over (laid a ws placed) words ≡ with_block (over placed words) a ws
over_laid words a [] placed h = sym (none_laid (over placed words) a)
over_laid words a (w ∷ ws) placed h =
    over_laid words (a + 1) ws _ (omega arith) ∙ set_block _ a w ws (omega (arith, length-over placed words))

value_same : (xs ys : List ℕ) (theta c : ℕ) → c < 32 → ((j : ℕ) → j < 56 → get_or ys j 0 ≡ get_or xs j 0)
    → value_of ys theta c ≡ value_of xs theta c
value_same xs ys theta c h same = let e = same (24 + c) (omega arith) in rw e refl

-- the state after items that place words
abbrev pub behind : List ℕ → NotationState → ℕ → List Item → NotationState
behind contents notation a is = record {
  directive = T_F + 2 * (a + length is);
  theta = notation.theta;
  placed = laid a (block contents notation.theta is) notation.placed;
}

-- items that place words under T a K, from 56 upwards, are read without a fault and place their words one after the
-- other; `contents` are the words below 56
pub placing_all : {z : Size} {words : List ℕ} (contents : List ℕ) {notation : NotationState} (a : ℕ) (is : List Item)
    → all_letters is ≡ true → notation.directive ≡ T_F + 2 * a → 56 ≤ a → a + length is ≤ locations z
    → ((j : ℕ) → j < 56 → get_or (over notation.placed words) j 0 ≡ get_or contents j 0)
    → Reads z words notation is (behind contents notation a is) (block_cost is)
placing_all {z} {words} contents {notation} a [] h d low fits same =
    let e : a + 0 ≡ a = omega arith in
    let is : notation ≡ behind contents notation a [] =
    rw e (λ k. record { directive = d k; theta = notation.theta; placed = notation.placed }) in
    rw (← is) (reads_none z words notation)
placing_all {z} {words} contents {notation} a (i ∷ is) h d low fits same =
    let p = and_parts _ _ h in
    let q = and_parts _ _ p.0 in
    let k : row_kind i.end ≡ Letter = letter_of _ q.1 in
    let below : a < locations z = omega arith in
    let word : ℕ = word_with i.function i.number i.mark (value_of contents notation.theta i.end) in
    let next : NotationState = record {
      directive = T_F + 2 * (a + 1);
      theta = notation.theta;
      placed = (a, word) ∷ notation.placed;
    } in
    let value = value_same contents _ _ i.end (code_of i.end k) same in
    let word_is : item_word words notation i ≡ word = ap (λ v. word_with i.function i.number i.mark v) value in
    let rest : Reads z words next is (behind contents next (a + 1) is) (block_cost is) =
    placing_all contents {notation = next} (a + 1) is p.1 refl (omega arith) (omega arith)
    (λ j l. get_or-set_other _ a j word 0 (omega arith) ∙ same j l) in
    let n : a + suc (length is) ≡ a + 1 + length is = omega arith in
    let cost = placing_cost z words notation i a k d below in
    rw (n, sym cost) (reads_one z words i q.0 (Does-placing z words a k d (omega arith) below word_is) rest)
