-- What is said of kinds of orders is said of their letters.
use Rattle.ed_laws.proofs.Kit.{slice_index, Kind, ◌&&◌, and_parts, byte_of, [], Bool, false, List, None, Option, rules}
use Rattle.ed_laws.proofs.Kit.{suc, true, ℕ, ◌∷◌, ◌≡◌, not, slice_index_or, zero, kind_of_function}
use Rattle.ed_codes.specs.Spelling.{letters}
use Rattle.ed_orders.specs.Kinds.{kinds}

abbrev same : Bool → Bool → Bool
same true b = b
same false b = not b

same_is : (a b : Bool) → same a b ≡ true → a ≡ b
same_is a b h = search rules

module _ (of_kind : Option Kind → Bool) (of_letter : ℕ → Bool) where
  -- whether both say the same, kind by kind and letter by letter
  abbrev pub match_up : List (Option Kind) → List ℕ → Bool
  match_up [] [] = true
  match_up (k ∷ ks) (l ∷ ls) = same (of_kind k) (of_letter l) && match_up ks ls
  match_up ks ls = false

  matched : (ks : List (Option Kind)) (ls : List ℕ) (f : ℕ) → of_kind None ≡ of_letter 0 → match_up ks ls ≡ true
      → of_kind (slice_index_or ks f None) ≡ of_letter (slice_index ls f)
  matched [] [] f none h = none
  matched (k ∷ ks) (l ∷ ls) zero none h = same_is _ _ (and_parts _ _ h).0
  matched (k ∷ ks) (l ∷ ls) (suc f) none h = matched ks ls f none (and_parts _ _ h).1
  matched [] (l ∷ ls) f none h = absurd (cc)
  matched (k ∷ ks) [] f none h = absurd (cc)

  -- then they do of the kind and the letter of each function
  pub letter_says : of_kind None ≡ of_letter 0 → match_up kinds letters ≡ true → (f : ℕ)
      → of_kind (kind_of_function f) ≡ of_letter (byte_of f false)
  letter_says none h f = matched kinds letters f none h
