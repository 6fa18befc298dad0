-- A part of a tape that is read at another place.
use Rattle.ed_laws.proofs.Kit.{slice_index, word_with, ◌*◌, act, costs, fold, NotationState, Begun, digits_number}
use Rattle.ed_laws.proofs.Kit.{item_of, items, row_kind, Written, [], ap, arith, if◌then◌else◌, length, List, map}
use Rattle.ed_laws.proofs.Kit.{nat_eq, refl, rules, Some, suc, ℕ, ◌++◌, ◌+◌, ◌<◌, ◌∙◌, ◌∷◌, ◌≡◌, ◌≤◌, ◌⊎◌, zero, ne_eqb}
use Rattle.ed_notation.proofs.Kit.{begun_cost, end_cost, digits_of}
use Rattle.std.proofs.lemmas.Bool.{eq-eqb}
use Rattle.ed_notation.specs.Fold.{placed_at}
use Rattle.ed_laws.specs.Relocation.{AreMovable, EachPartMoves, moved, place_items}

-- ---- one item

-- the state of the notation after j items at b
abbrev at_place : ℕ → List (ℕ × ℕ) → ℕ → NotationState
at_place b placed j = record { directive = 20480 + 2 * (b + j); theta = 2 * b; placed = placed }

-- the value of an ending, and the word of an item
abbrev value_at : ℕ → ℕ → ℕ
value_at b end = if nat_eq end 17 then 0 else if nat_eq end 18 then 2 * b else 1

abbrev word_at : ℕ → Written → ℕ
word_at b w = word_with w.begun.function (digits_number 0 w.begun.digits) w.begun.mark (value_at b w.end)

module _ (v : List ℕ) (b : ℕ) (placed : List (ℕ × ℕ)) (j : ℕ) (low : b + j < 1024) where
  abbrev n : NotationState
  n = at_place b placed j

  one_placed : (begun : Begun) (e : ℕ) → (e ≡ 17) ⊎ ((e ≡ 18) ⊎ (e ≡ 19))
      → act v n (item_of begun e)
      ≡ at_place b ((b + j, word_at b (record { begun = begun; end = e })) ∷ placed) (j + 1)
  one_placed begun e h = search rules

  seventeen : (e : ℕ) → (e ≡ 17) ⊎ ((e ≡ 18) ⊎ (e ≡ 19)) → end_cost (row_kind e) n ≡ 17
  seventeen e movable = search rules

-- ---- many items

word_in : ℕ → List Written → ℕ → ℕ
word_in b [] k = 0
word_in b (w ∷ ws) zero = word_at b w
word_in b (w ∷ ws) (suc k) = word_in b ws k

abbrev plain_costs : List Written → ℕ
plain_costs [] = 0
plain_costs (w ∷ ws) = begun_cost w.begun + 17 + plain_costs ws

module _ (v : List ℕ) (b : ℕ) where
  -- words below stay
  kept : (ws : List Written) (placed : List (ℕ × ℕ)) (j a : ℕ) → AreMovable ws → b + j + length ws ≤ 1024 → a < b + j
      → placed_at (fold v (at_place b placed j) (items ws)).placed a ≡ placed_at placed a
  kept [] placed j a are fits below = refl
  kept (w ∷ ws) placed j a are fits below =
      let more = kept ws ((b + j, word_at b w) ∷ placed) (j + 1) a are.1 (omega (arith, fits)) (omega (arith, below)) in
      search (rules, ne_eqb, one_placed, more)

  -- each word is placed
  laid : (ws : List Written) (placed : List (ℕ × ℕ)) (j k : ℕ) → AreMovable ws → b + j + length ws ≤ 1024
      → k < length ws
      → placed_at (fold v (at_place b placed j) (items ws)).placed (b + j + k) ≡ Some (word_in b ws k)
  unfolding word_in
  laid [] placed j k are fits less = absurd (omega arith)
  laid (w ∷ ws) placed j zero are fits less = search (rules, eq-eqb, one_placed, kept)
  laid (w ∷ ws) placed j (suc k) are fits less =
      let more = laid ws ((b + j, word_at b w) ∷ placed) (j + 1) k are.1 (omega (arith, fits)) (omega (arith, less)) in
      search (rules, one_placed, more)

  -- at this cost
  cost_is : (ws : List Written) (placed : List (ℕ × ℕ)) (j : ℕ) → AreMovable ws → b + j + length ws ≤ 1024
      → costs v (at_place b placed j) ws ≡ plain_costs ws
  cost_is [] placed j are fits = refl
  cost_is (w ∷ ws) placed j are fits =
      let more = cost_is ws ((b + j, word_at b w) ∷ placed) (j + 1) are.1 (omega (arith, fits)) in
      search (rules, seventeen, one_placed, more)

-- ---- the place

module _ (v : List ℕ) (b : ℕ) (low : b ≤ 1024) (n : NotationState) where
  leads : fold v n (items (place_items b)) ≡ at_place b n.placed 0
  leads = search rules

-- ---- the law

moves : (b c : ℕ) (ws : List Written) (k : ℕ) → b ≤ 1024 → c ≤ 1024 → AreMovable ws → k < length ws
    → word_in c ws k ≡ moved b c (slice_index (map (λ w. w.end) ws) k) (word_in b ws k)
unfolding word_in
moves b c [] k low high are less = absurd (omega arith)
moves b c (w ∷ ws) (suc k) low high are less = moves b c ws k low high are.1 (omega (arith, less))
moves b c (w ∷ ws) zero low high are less = search rules

pub each_part_moves : EachPartMoves
each_part_moves b c ws fits too are = record { words = words; cost = cost }
  where
    there : (d : ℕ) → d + length ws ≤ 1024 → (v : List ℕ) (n : NotationState) (k : ℕ) → k < length ws
        → placed_at (fold v n (items (place_items d ++ ws))).placed (d + k) ≡ Some (word_in d ws k)
    there d low v n k less =
        let at : d + k ≡ d + 0 + k = omega arith in
        ap (λ (x : NotationState). placed_at (fold v x (items ws)).placed (d + k)) (leads v d (omega (arith, low)) n)
        ∙ ap (placed_at (fold v (at_place d n.placed 0) (items ws)).placed) at
        ∙ laid v d ws n.placed 0 k are (omega (arith, low)) less

    words : (v w : List ℕ) (n m : NotationState) (k : ℕ) → k < length ws
        → (word : ℕ) × (placed_at (fold v n (items (place_items b ++ ws))).placed (b + k) ≡ Some word)
        × (placed_at (fold w m (items (place_items c ++ ws))).placed (c + k)
        ≡ Some (moved b c (slice_index (map (λ w. w.end) ws) k) word))
    words v w n m k less = (
      word_in b ws k,
      there b fits v n k less,
      there c too w m k less ∙ ap Some (moves b c ws k (omega (arith, fits)) (omega (arith, too)) are less),
    )

    all : (d : ℕ) → d + length ws ≤ 1024 → (v : List ℕ) (n : NotationState)
        → costs v n (place_items d ++ ws) ≡ 44 + 9 * length (digits_of d) + plain_costs ws
    all d low v n =
        let rest : costs v (fold v n (items (place_items d))) ws ≡ plain_costs ws =
        ap (λ (x : NotationState). costs v x ws) (leads v d (omega (arith, low)) n)
        ∙ cost_is v d ws n.placed 0 are (omega (arith, low)) in
        omega (arith, rest)

    cost : (v w : List ℕ) (n m : NotationState)
        → costs v n (place_items b ++ ws) + 9 * length (digits_of c)
        ≡ costs w m (place_items c ++ ws) + 9 * length (digits_of b)
    cost v w n m = omega (arith, all b fits v n, all c too w m)
