-- A loop that compares the words of a store with a list, location by location: what the test at one location means.
use Rattle.ed_initial.proofs.Kit.{common_steps, arith, false≢true, not-true, ap, Bool, false, get_or, length, List, sym}
use Rattle.ed_initial.proofs.Kit.{true, ℕ, ◌<◌, ◌∙◌, ◌≡◌, ◌≢◌}
use Rattle.std.proofs.Common.{eqb}
use Rattle.std.proofs.Math.Bool.{not}
use Rattle.std.proofs.lemmas.Bool.{eqb-true, eq-eqb, not-false}

-- a test that reads the item of the list once more
pub not_eqb-same : (word : ℕ) {item again : ℕ} {differ : Bool} → differ ≡ not (eqb word again) → item ≡ again
    → differ ≡ not (eqb word item)
not_eqb-same word is_test same = is_test ∙ ap (λ x. not (eqb word x)) (sym same)

-- at location i the word of the store and the item of the list, at the same index, were read; `differ` is the test's answer
module _ (words list : List ℕ) (i : ℕ) {read : List ℕ} {index word item : ℕ} {differ : Bool} (less : i < length list)
    (is_list : read ≡ list) (is_index : index ≡ i) (is_item : item ≡ get_or read index item)
    (is_word : word ≡ get_or words i 0) (is_test : differ ≡ not (eqb word item)) where
  item_at : item ≡ get_or list i 0
  item_at = grind (arith, common_steps)

  pub is_same : differ ≡ false → get_or words i 0 ≡ get_or list i 0
  is_same off = sym is_word ∙ eqb-true _ _ (not-false _ (sym is_test ∙ off)) ∙ item_at

  pub is_other : differ ≡ true → get_or words i 0 ≢ get_or list i 0
  is_other on same = false≢true (sym (not-true _ (sym is_test ∙ on)) ∙ eq-eqb _ _ (is_word ∙ same ∙ sym item_at))
