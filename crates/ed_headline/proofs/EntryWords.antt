-- The store at the entry of a source: the Initial Orders, and the words of its lines.
use Rattle.ed_headline.proofs.Kit.{length-append, length-drop, Size, over, Line, [], ap, arith, Bool, drop, false}
use Rattle.ed_headline.proofs.Kit.{get_or, length, List, nat_eq, None, Option, refl, replicate, reverse, Some, true, ℕ}
use Rattle.ed_headline.proofs.Kit.{◌+◌, ◌-◌, ◌<◌, ◌∙◌, ◌∷◌, ◌≡◌, ◌≤◌, length-replicate, linked_words, entry_store}
use Rattle.ed_headline.proofs.Kit.{loader_words, IsEntryStore}
use Rattle.ed_link.proofs.Kit.{unwrap_or, eq-eqb, eqb-true, locations_most, placed_at}
use Rattle.std.proofs.Math.ListN.{get_or-append}
use Rattle.std.proofs.lemmas.List.{get_or-append_right, get_or-drop, get_or-replicate}
use Rattle.ed_store.specs.Cells.{short_at}
use Rattle.ed_notation.specs.Checks.{ArePlaces}
use Rattle.ed_notation.proofs.Contents.{content_is, length-over}
use Rattle.ed_link.specs.Words.{WordsStand, linked_word}
use Rattle.ed_link.proofs.WordLaws.{each_word_stands}
use Rattle.ed_headline.specs.EntryWords.{EachEntryStoreIs, IsFreePlace}

-- all words of a list have locations of the store if each does
are_places : (ps : List (ℕ × ℕ)) → ((a w : ℕ) → placed_at ps a ≡ Some w → a < 1024) → ArePlaces ps
are_places [] within = tt
are_places (p ∷ ps) within = (first, are_places ps (λ a w e. by_test a w (nat_eq p.0 a) refl e))
  where
    same : nat_eq p.0 p.0 ≡ true
    same = eq-eqb p.0 p.0 refl

    first : p.0 < 1024
    first = within p.0 p.1 (rw same refl)

    by_test : (a w : ℕ) (t : Bool) → nat_eq p.0 a ≡ t → placed_at ps a ≡ Some w → a < 1024
    by_test a w true e h = let is : p.0 ≡ a = eqb-true p.0 a e in omega (arith, is, first)
    by_test a w false e h = within a w (rw e h)

module _ (lines : List Line) where
  abbrev zeros : List ℕ
  zeros = replicate 1024 0

  abbrev placed : List (ℕ × ℕ)
  placed = reverse (linked_words lines)

  first_words : length (loader_words lines) ≡ 44
  first_words = refl

  pub words_count : length (entry_store lines).words ≡ 1024
  words_count =
      length-append (loader_words lines) (drop 44 (over placed zeros))
      ∙ ap (λ n. 44 + n) (length-drop 44 (over placed zeros) ∙ ap (λ n. n - 44) (length-over placed zeros))

  -- a word after those of the Initial Orders
  pub entry_word : ArePlaces placed → (a : ℕ) → 44 ≤ a → a < 1024
      → short_at (entry_store lines) a ≡ unwrap_or (linked_word lines a) 0
  entry_word are a low high =
      let there : 44 + (a - 44) ≡ a = omega arith in
      get_or-append_right (loader_words lines) (drop 44 (over placed zeros)) 44 a 0 first_words low
      ∙ get_or-drop 44 (over placed zeros) (a - 44) 0
      ∙ ap (λ x. get_or (over placed zeros) x 0) there
      ∙ content_is zeros (length-replicate {A = ℕ} 1024 0) placed a are
      ∙ ap (λ x. unwrap_or (placed_at placed a) x) (get_or-replicate 1024 a 0 0 high)

module _ (z : Size) (lines : List Line) (w : WordsStand z lines) where
  are : ArePlaces (reverse (linked_words lines))
  are = are_places (reverse (linked_words lines))
      (λ a v e. let p = w.within a v e in let m = locations_most z in omega (arith, p.1, m))

  -- a location with a word
  has : (a v : ℕ) → linked_word lines a ≡ Some v → short_at (entry_store lines) a ≡ v
  has a v e =
      let p = w.within a v e in
      let m = locations_most z in
      entry_word lines are a p.0 (omega (arith, p.1, m)) ∙ ap (λ o. unwrap_or o 0) e

  free : (a : ℕ) → 44 ≤ a → a < 1024 → IsFreePlace lines a → short_at (entry_store lines) a ≡ 0
  free a low high none = entry_word lines are a low high ∙ by_word (linked_word lines a) refl
    where
      by_word : (o : Option ℕ) → linked_word lines a ≡ o → unwrap_or o 0 ≡ 0
      by_word None e = refl
      by_word (Some v) e = let o = w.only a v e in absurd (none o.0 o.1 v o.2 o.3)

  store_is : IsEntryStore lines (entry_store lines)
  store_is = record {
    count = words_count lines;
    loader = λ place low. get_or-append (loader_words lines) _ 0 place low;
    lines_have = λ before l place word s p. has place word (w.stands before l place word s p);
    parameters_have = λ before l place word s p last. has place word (w.sets before l place word s p last);
    free_have = free;
    sandwich = refl;
  }

pub each_entry_store_is : EachEntryStoreIs
each_entry_store_is z source lines a = store_is z lines (each_word_stands z lines a.faultless)
