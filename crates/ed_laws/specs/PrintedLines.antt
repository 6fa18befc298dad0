-- What the lines of a post-mortem show of their words (this project's own rules).
use Rattle.std.specs.Prelude.{◌≡◌, ◌⊎◌, ℕ, ◌+◌, ◌/◌, ◌%◌, ◌<◌, ◌≤◌, ◌==◌, ◌||◌, Bool, true, List, [], ◌∷◌}
use Rattle.std.specs.Prelude.{◌++◌}
use Rattle.std.specs.Prelude.{Some, codes, flat_map, map, slice_index, if◌then◌else◌}
use Rattle.std.specs.List.{range_with_len}
use Rattle.ed_words.specs.Texts.{Text}
use Rattle.ed_store.specs.Cells.{IsStore, short_at}
use Rattle.ed_printer.specs.Paper.{paper, struck_bytes}
use Rattle.ed_printer.specs.declared.printer.Shift.TheVariants.{Letters}
use Rattle.ed_machine.specs.State.{State}
use Rattle.ed_run.specs.declared.settings.Window.{Window}
use Rattle.ed_postmortem.specs.Codes.{address_digits, is_even, number_in}
use Rattle.ed_tapes.specs.Runs.{post_mortem_codes}

-- the line of a word: what the code of its function prints in letter shift, the number of its address
-- (`AddressDigitsLaw` says that these digits are its decimal text), F for an even word and D for an odd one, and a new
-- line
abbrev pub printed_line : ℕ → Text
printed_line word = struck_bytes Letters (word / 4096) ++ map (λ d. 48 + d) (address_digits (number_in word))
    ++ (if is_even word then codes "F" else codes "D") ++ 13 ∷ 10 ∷ []

-- the codes of functions that print nothing in letter shift: figure shift, letter shift and blank
abbrev pub is_silent : ℕ → Bool
is_silent f = f == 11 || (f == 15 || f == 16)

-- two words are the same, or they differ in functions that print nothing
abbrev pub IsSameOnPaper : ℕ → ℕ → Type 0
IsSameOnPaper v w = (v ≡ w)
    ⊎ ((is_silent (v / 4096) ≡ true) × (is_silent (w / 4096) ≡ true) × (v % 4096 ≡ w % 4096))

-- after what a run has printed, in whatever shift, a post-mortem prints the lines of its words. If the post-mortems of
-- two states print the same text, the words there are the same but for functions that print nothing.
pub record EachLineIsOfItsWord : Type 0 where
  pub prints : (before : List ℕ) (w : Window) (s : State)
      → paper (before ++ post_mortem_codes (Some w) s) ≡ paper before
      ++ flat_map (λ a. printed_line (slice_index s.store.words a)) (range_with_len w.first w.count)
  pub read : (w : Window) (s t : State) → IsStore s.store → IsStore t.store
      → paper (post_mortem_codes (Some w) s) ≡ paper (post_mortem_codes (Some w) t)
      → (a : ℕ) → w.first ≤ a → a < w.first + w.count → IsSameOnPaper (short_at s.store a) (short_at t.store a)
