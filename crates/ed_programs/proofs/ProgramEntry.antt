-- A source's program at its entry: its cells and the routines of the library after them, each by one test.
use Rattle.std.specs.List.{range_with_len}
use Rattle.std.proofs.lemmas.List.FromFn.{get_or-map-range_with_len, length-map-range_with_len}
use Rattle.ed_sources.proofs.Kit.{ap, map, arith, get_or, inr, length, List, refl, rules, sym, true, unwrap_or, ℕ, ◌+◌}
use Rattle.ed_sources.proofs.Kit.{◌<◌, ◌∙◌, ◌≡◌, ◌≤◌, locations_least, State, state, patched, placed_at, place_count}
use Rattle.ed_sources.proofs.Kit.{entry_of, HasRoutine, ReachesStop, entry_state}
use Rattle.ed_words.specs.declared.size.Size.{Size}
use Rattle.ed_machine.proofs.Kit.Window.{patched_self}
use Rattle.ed_lines.specs.declared.program.Line.{Line}
use Rattle.ed_sources.proofs.AtEntry.{all_words, has_image, have_places, placed, word_at}
use Rattle.ed_sources.proofs.Entries.{frame_at, moment_at, routine_at}

-- the n words from location a upwards
abbrev pub words_from : List (ℕ × ℕ) → ℕ → ℕ → List ℕ
words_from ps a n = map (λ j. unwrap_or (placed_at ps j) 0) (range_with_len a n)

module _ (z : Size) (lines : List Line) (fit : have_places (placed lines) ≡ true) where
  abbrev s : State
  s = entry_state z lines

  -- a routine of the library after a piece of n cells
  pub routine_after : {n : ℕ} (few : n ≤ 456) (r base : ℕ) (parameters : List ℕ)
      → has_image (placed lines) r base parameters ≡ true → 56 + n ≤ base → base < 512 → base + place_count r ≤ 512
      → HasRoutine (frame_at n z few) s.store.words r base parameters
  routine_after {n} few r base parameters test apart reached high =
      let size = locations_least z in
      routine_at z lines fit (frame_at n z few) r base parameters test (omega arith) high refl (omega arith) (inr apart)

-- the n words from 56 on are the cells, as far as those words are known
module _ (z : Size) (lines : List Line) (n : ℕ) (few : n ≤ 456) (ps : List (ℕ × ℕ))
    (known : (j : ℕ) → j < n → get_or (entry_state z lines).store.words (56 + j) 0
    ≡ unwrap_or (placed_at ps (56 + j)) 0)
    (cells : List ℕ) (are : words_from ps 56 n ≡ cells) where
  abbrev first : State
  first = entry_state z lines

  same : patched 0 first.store.words 56 cells ≡ first.store.words
  same =
      let all = all_words z lines in
      let word : ℕ → ℕ = λ j. unwrap_or (placed_at ps j) 0 in
      let long : length cells ≡ n = sym (ap (λ (cs : List ℕ). length cs) are) ∙ length-map-range_with_len word 56 n in
      search (rules, patched_self, get_or-map-range_with_len)

  -- so a stop of the program, from the moment at its entry, is a stop of the source
  pub stops_by : {k at : ℕ} {codes : List ℕ} → entry_of lines ≡ 56 → (tape : List ℕ) → tape ≡ first.tape
      → ReachesStop k
      (state (frame_at n z few) (record (moment_at first) { cells = cells; tape = tape }) first.orders) codes at
      → ReachesStop k first codes at
  stops_by {k} {at} {codes} at_56 tape rows = search (rules, same)

-- the same where all words of the source are known
pub stops_from_entry : (z : Size) (lines : List Line) → have_places (placed lines) ≡ true → (n : ℕ) (few : n ≤ 456)
    (cells : List ℕ) → words_from (placed lines) 56 n ≡ cells → {k at : ℕ} {codes : List ℕ} → entry_of lines ≡ 56
    → (tape : List ℕ) → tape ≡ (entry_state z lines).tape
    → ReachesStop k (state (frame_at n z few) (record (moment_at (entry_state z lines)) { cells = cells; tape = tape })
    (entry_state z lines).orders) codes at
    → ReachesStop k (entry_state z lines) codes at
stops_from_entry z lines fit n few cells are =
    stops_by z lines n few (placed lines) (λ j l. word_at z lines fit (56 + j) (omega arith) (omega arith)) cells are
