-- The words in the store at the entry of a source's program.
use Rattle.ed_sources.proofs.Kit.{Size, Line, length-append, nat_eq, list_all, and_parts, ltb-true, image_word, reverse}
use Rattle.ed_sources.proofs.Kit.{unwrap_or, eqb-true, length-replicate, placed_at, linked_words, [], arith, Bool}
use Rattle.ed_sources.proofs.Kit.{length, List, nat_lt, rules, true, ℕ, ◌+◌, ◌<◌, ◌∙◌, ◌∷◌, ◌≡◌, ◌≤◌, short_at}
use Rattle.ed_sources.proofs.Kit.{place_count, HasWord, entry_state, Text, subst, cost}
use Rattle.std.proofs.lemmas.List.{length-drop}
use Rattle.ed_notation.specs.Checks.{ArePlaces}
use Rattle.ed_notation.proofs.Contents.{length-over}
use Rattle.ed_headline.proofs.EntryWords.{entry_word}
use Rattle.ed_sources.proofs.Decimals.{list_all-numbers, numbers}
use Rattle.ed_headline.specs.Refusals.{IsAcceptedAs}
use Rattle.ed_machine.specs.Sound.{IsSound}
use Rattle.ed_machine.proofs.SoundSteps.{sound_after}
use Rattle.ed_initial.proofs.Starts.{sound_start}
use Rattle.ed_headline.proofs.Entries.{each_source}
use Rattle.ed_headline.proofs.PunchedTexts.{text_is_tape}

-- the words that a source places, the last one first
abbrev pub placed : List Line → List (ℕ × ℕ)
placed lines = reverse (linked_words lines)

-- whether each has a location of the store
abbrev pub have_places : List (ℕ × ℕ) → Bool
have_places ps = list_all (λ p. nat_lt p.0 1024) ps

are_places : (ps : List (ℕ × ℕ)) → have_places ps ≡ true → ArePlaces ps
are_places [] h = tt
are_places (p ∷ ps) h = let q = and_parts (nat_lt p.0 1024) (have_places ps) h in
    (ltb-true p.0 1024 q.0, are_places ps q.1)

-- whether the words of a routine are at a base
abbrev pub has_image : List (ℕ × ℕ) → ℕ → ℕ → List ℕ → Bool
has_image ps r base parameters =
    list_all (λ i. nat_eq (unwrap_or (placed_at ps (base + i)) 0) (image_word r i base parameters))
    (numbers 0 (place_count r))

module _ (z : Size) (lines : List Line) where
  pub all_words : length (entry_state z lines).store.words ≡ 1024
  all_words = search (rules, length-append, length-drop, length-over, length-replicate)

  module _ (fit : have_places (placed lines) ≡ true) where
    -- a word above those of the Initial Orders
    pub word_at : (a : ℕ) → 44 ≤ a → a < 1024
        → short_at (entry_state z lines).store a ≡ unwrap_or (placed_at (placed lines) a) 0
    word_at = entry_word lines (are_places (placed lines) fit)

    pub image_at : {r base i : ℕ} {parameters : List ℕ} → has_image (placed lines) r base parameters ≡ true → 44 ≤ base
        → base + place_count r ≤ 512 → i < place_count r → HasWord r parameters base (entry_state z lines) i
    image_at {r} {base} {i} {parameters} test low high l = record {
      has = λ free. word_at (base + i) (omega arith) (omega arith)
          ∙ eqb-true (unwrap_or (placed_at (placed lines) (base + i)) 0) (image_word r i base parameters)
          (list_all-numbers (λ i. nat_eq (unwrap_or (placed_at (placed lines) (base + i)) 0)
          (image_word r i base parameters)) 0
          (place_count r) i test
          (omega arith) (omega arith));
    }

-- the machine at the entry of an accepted source is within its bounds
pub sound_entry : (z : Size) (source : Text) (lines : List Line) → IsAcceptedAs z source lines
    → IsSound (entry_state z lines)
sound_entry z source lines a =
    subst IsSound (each_source z source lines a).state_is
    (sound_after (cost lines) _ (search (sound_start, (text_is_tape z source lines a))))
