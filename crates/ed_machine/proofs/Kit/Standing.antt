-- A piece in a store: its image, which is its words except those at the working locations; the words that it takes
-- over; and what it leaves unchanged.
use Rattle.ed_machine.proofs.Names.{rules, drop, List, subst, suc, zero, ◌-◌, get_or, [], ap, arith, length, None}
use Rattle.ed_machine.proofs.Names.{Option, refl, Some, sym, ℕ, ◌+◌, ◌<◌, ◌∙◌, ◌∷◌, ◌≡◌, ◌≤◌}
use Rattle.ed_machine.proofs.Kit.Window.{patched, patched_self, get_own, get_below, get_above}

-- a word is the wanted one, if one is wanted
abbrev pub Meets : Option ℕ → ℕ → Type 0
Meets None w = Unit {0}
Meets (Some x) w = w ≡ x

-- the image is in a store's words at a base
abbrev pub Holds : List (Option ℕ) → List ℕ → ℕ → Type 0
Holds image words base = (i : ℕ) → i < length image → Meets (get_or image i None) (get_or words (base + i) 0)

-- a working location of the piece
pub record IsWorking (image : List (Option ℕ)) (base i : ℕ) : Type 0 where
  pub from : base ≤ i
  pub below : i < base + length image
  pub free : get_or image (i - base) None ≡ None

-- the image with the words at its working locations filled in
abbrev pub filled : List (Option ℕ) → List ℕ → ℕ → ℕ → List ℕ
filled [] ws b i = []
filled (Some w ∷ rest) ws b i = w ∷ filled rest ws b (i + 1)
filled (None ∷ rest) ws b i = get_or ws (b + i) 0 ∷ filled rest ws b (i + 1)

pub length_filled : (image : List (Option ℕ)) (ws : List ℕ) (b i : ℕ) → length (filled image ws b i) ≡ length image
length_filled [] ws b i = refl
length_filled (None ∷ rest) ws b i = ap suc (length_filled rest ws b (i + 1))
length_filled (Some x ∷ rest) ws b i = ap suc (length_filled rest ws b (i + 1))

-- the rest of the image is one location further
one_on : (o : Option ℕ) (rest : List (Option ℕ)) (ws : List ℕ) (b i : ℕ)
    → ((j : ℕ) → j < length (o ∷ rest) → Meets (get_or (o ∷ rest) j None) (get_or ws (b + i + j) 0))
    → (j : ℕ) → j < length rest → Meets (get_or rest j None) (get_or ws (b + (i + 1) + j) 0)
one_on o rest ws b i h j l = let e : b + (i + 1) + j ≡ b + i + suc j = omega arith in rw e (h (suc j) (omega arith))

filled_at : (image : List (Option ℕ)) (ws : List ℕ) (b i : ℕ)
    → ((j : ℕ) → j < length image → Meets (get_or image j None) (get_or ws (b + i + j) 0))
    → (j : ℕ) → j < length image → get_or (filled image ws b i) j 0 ≡ get_or ws (b + i + j) 0
filled_at [] ws b i h j l = absurd (omega arith)
filled_at (None ∷ rest) ws b i h zero l = let e : b + i + 0 ≡ b + i = omega arith in rw e refl
filled_at (Some x ∷ rest) ws b i h zero l = sym (h 0 l)
filled_at (None ∷ rest) ws b i h (suc j) l =
    search (rules, (filled_at rest ws b (i + 1) (one_on None rest ws b i h) j (omega arith)))
filled_at (Some x ∷ rest) ws b i h (suc j) l =
    search (rules, (filled_at rest ws b (i + 1) (one_on (Some x) rest ws b i h) j (omega arith)))

-- a store that holds the image is that image in itself
pub patched-filled : (image : List (Option ℕ)) (ws : List ℕ) (b : ℕ) → b + length image ≤ length ws → Holds image ws b
    → patched 0 ws b (filled image ws b 0) ≡ ws
patched-filled image ws b l h = search (rules, length_filled, patched_self, filled_at)

-- the image with other words at its working locations
abbrev pub merged : List (Option ℕ) → List ℕ → List ℕ
merged (Some x ∷ os) (c ∷ cs) = x ∷ merged os cs
merged (None ∷ os) (c ∷ cs) = c ∷ merged os cs
merged [] cs = cs
merged os [] = []

merged_at : (os : List (Option ℕ)) (cs : List ℕ) → merged os cs ≡ cs → (j : ℕ) → j < length os → j < length cs
    → Meets (get_or os j None) (get_or cs j 0)
merged_at [] cs h j l m = absurd (omega arith)
merged_at (o ∷ os) [] h j l m = absurd (omega arith)
merged_at (Some y ∷ os) (c ∷ cs) h zero l m = ap (λ z. get_or z 0 0) (sym h)
merged_at (None ∷ os) (c ∷ cs) h zero l m = tt
merged_at (Some y ∷ os) (c ∷ cs) h (suc j) l m = merged_at os cs (ap (drop 1) h) j (omega arith) (omega arith)
merged_at (None ∷ os) (c ∷ cs) h (suc j) l m = merged_at os cs (ap (drop 1) h) j (omega arith) (omega arith)

-- a piece that was in a store, and whose words have changed at its working locations
module _ (image : List (Option ℕ)) (ws : List ℕ) (b : ℕ) (cs : List ℕ) (long : length cs ≡ length image)
    (new : merged image cs ≡ cs)
    (old : Holds image ws b) where
  by_entry : (i : ℕ) (o : Option ℕ) → get_or image (i - b) None ≡ o → b ≤ i → i < b + length image
      → (IsWorking image b i → ⊥)
      → get_or (patched 0 ws b cs) i 0 ≡ get_or ws i 0
  by_entry i None e from below free = absurd (free (record { from = from; below = below; free = e }))
  by_entry i (Some x) e from below free =
      let j : b + (i - b) ≡ i = omega arith in
      let inside : i - b < length cs = omega arith in
      let was : get_or ws (b + (i - b)) 0 ≡ x =
      subst (λ o. Meets o (get_or ws (b + (i - b)) 0)) e (old (i - b) (omega arith)) in
      let is : get_or cs (i - b) 0 ≡ x =
      subst (λ o. Meets o (get_or cs (i - b) 0)) e (merged_at image cs new (i - b) (omega arith) inside) in
      ap (λ p. get_or (patched 0 ws b cs) p 0) (sym j) ∙ get_own 0 ws b cs (i - b) inside ∙ is ∙ sym was
      ∙ ap (λ p. get_or ws p 0) j

  -- each word of the store is unchanged, except the working ones
  pub get_or-patched : (i : ℕ) → (IsWorking image b i → ⊥) → get_or (patched 0 ws b cs) i 0 ≡ get_or ws i 0
  get_or-patched i free = search (rules, get_below, by_entry, get_above)
