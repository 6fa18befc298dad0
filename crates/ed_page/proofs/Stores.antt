-- A store that is made pair by pair of what a picture shows is the store that was pictured.
use Rattle.ed_page.proofs.Kit.{common_steps, rules, cleared_cells, zero, Cells, IsStore, lit<, ◌*◌, ◌/◌, arith, false}
use Rattle.ed_page.proofs.Kit.{get_or, inl, inr, length, List, replicate, subst, suc, sym, ℕ, ◌+◌, ◌<◌, ◌^◌, ◌∙◌, ◌≡◌}
use Rattle.ed_page.proofs.Kit.{◌⊎◌, PicturesStore}
use Rattle.std.proofs.lemmas.List.{ext_get_or}

zeros : (n i : ℕ) → get_or (replicate n 0) i 0 < 2 ^ 17
zeros zero i = lit< tt
zeros (suc n) zero = lit< tt
zeros (suc n) (suc i) = zeros n i

pub cleared_store : IsStore cleared_cells
cleared_store = search (rules, zeros)

-- what two stores have in common at a pair
abbrev pub SamePair : Cells → Cells → ℕ → Type 0
SamePair s c j = (get_or s.words (2 * j) 0 ≡ get_or c.words (2 * j) 0)
    × (get_or s.words (2 * j + 1) 0 ≡ get_or c.words (2 * j + 1) 0)
    × (get_or s.sandwich j false ≡ get_or c.sandwich j false)

either_half : (i : ℕ) → (i ≡ 2 * (i / 2)) ⊎ (i ≡ 2 * (i / 2) + 1)
either_half i = grind arith

pub same_cells : (s c : Cells) → IsStore s → IsStore c → ((j : ℕ) → j < 512 → SamePair s c j) → s ≡ c
same_cells s c one two pairs =
    λ i. record {
      words = ext_get_or 0 s.words c.words (one.words_are ∙ sym two.words_are)
          (λ a below. word_is a (either_half a) (omega (arith, below, one.words_are))) i;
      sandwich = ext_get_or false s.sandwich c.sandwich (one.digits_are ∙ sym two.digits_are)
          (λ j below. (pairs j (omega (arith, below, one.digits_are))).2) i;
    }
  where
    word_is : (a : ℕ) → (a ≡ 2 * (a / 2)) ⊎ (a ≡ 2 * (a / 2) + 1) → a < 1024 → get_or s.words a 0 ≡ get_or c.words a 0
    word_is a (inl even) below =
        subst (λ n. get_or s.words n 0 ≡ get_or c.words n 0) (sym even) (pairs (a / 2) (omega (arith, even))).0
    word_is a (inr odd) below =
        subst (λ n. get_or s.words n 0 ≡ get_or c.words n 0) (sym odd) (pairs (a / 2) (omega (arith, odd))).1

-- the words of a picture are those of a store
pub words_fit : (c : Cells) (words digits : List ℕ) → IsStore c → PicturesStore c words digits → length words ≡ 1024
    → (a : ℕ) → get_or words a 0 < 2 ^ 17
words_fit c words digits store pictures many a = grind (arith, common_steps)
