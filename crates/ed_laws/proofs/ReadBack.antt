-- The words that a post-mortem prints are read back from its codes.
use Rattle.ed_laws.proofs.Kit.{slice_index, ◌/◌, address_digits, is_even, length_code, number_in, printed_codes}
use Rattle.ed_laws.proofs.Kit.{word_codes, arith, inl, inr, List, rules, subst, suc, ℕ, ◌++◌, ◌+◌, ◌<◌, ◌∷◌, ◌≡◌, ◌≤◌}
use Rattle.ed_laws.proofs.Kit.{zero, cases_lt}
use Rattle.ed_laws.specs.ReadBack.{EachWordIsReadBack}

-- ---- a word, and many

-- what follows the number of a word
abbrev tail_of : ℕ → List ℕ → List ℕ
tail_of word rest = length_code (is_even word) ∷ 18 ∷ 24 ∷ rest

pub word_codes-laid : (word : ℕ) (rest : List ℕ) → word_codes word ++ rest
    ≡ 15 ∷ word / 4096 ∷ 11 ∷ (address_digits (number_in word) ++ 15 ∷ tail_of word rest)
word_codes-laid word rest = search rules

word_back : (v w : ℕ) (more others : List ℕ) → word_codes v ++ more ≡ word_codes w ++ others
    → (v ≡ w) × (more ≡ others)
word_back v w more others same = search rules

words_back : (v w : List ℕ) (first count : ℕ) → printed_codes v first count ≡ printed_codes w first count
    → (a : ℕ) → first ≤ a → a < first + count → slice_index v a ≡ slice_index w a
unfolding printed_codes
words_back v w first zero same a low high = absurd (omega arith)
words_back v w first (suc count) same a low high =
    let both = word_back (slice_index v first) (slice_index w first) _ _ same in
    elim (cases_lt first a) [
      | inl later ↦ words_back v w (first + 1) count both.1 a (omega (arith, later)) (omega (arith, high))
      | inr no_later ↦
          let here : first ≡ a = omega (arith, low, no_later) in
          subst (λ i. slice_index v i ≡ slice_index w i) here both.0
    ]

pub each_word_is_read_back : EachWordIsReadBack
each_word_is_read_back w s t = words_back s.store.words t.store.words w.first w.count
