-- The loads of the two parts of the tape `examples/interlude.tape`, for any number: their entries, and what they cost.
use Rattle.ed_programs.proofs.TapeRuns.{entry_with}
use Rattle.ed_programs.proofs.Kit.{get_or-set_other, E_F, T_F, Size, Item, spelled_rows, digits_of, plain, set}
use Rattle.ed_programs.proofs.Kit.{canonical, canonicals, [], ap, arith, get_or, length, List, lit≤, refl, rules, subst}
use Rattle.ed_programs.proofs.Kit.{sym, ℕ, ◌*◌, ◌++◌, ◌+◌, ◌/◌, ◌<◌, ◌∙◌, ◌∷◌, ◌≡◌, ◌≤◌, locations, locations_least}
use Rattle.ed_programs.proofs.Kit.{locations_most, RowsReachEntry, WellFormed, NotationState, over, rows_of, opening}
use Rattle.ed_programs.proofs.Kit.{get_or-set_same, ◌≢◌, zero, suc}
use Rattle.ed_notation.proofs.Kit.{EndsSound, cost_of, is_entry, IsDirective}
use Rattle.ed_notation.proofs.Contents.{length-over}
use Rattle.ed_notation.proofs.Canonical.{is_written}
use Rattle.ed_notation.proofs.Placing.{block, laid, placing_all}
use Rattle.ed_notation.proofs.Sound.{sound_well}
use Rattle.ed_notation.proofs.Steps.{Reads, Does-aiming, aiming_entry, entering_at, reads_both, reads_none, reads_one}

-- items before an entry item P F, and the entry to which they lead from a state of the notation
pub record Entered (z : Size) (words : List ℕ) (start : NotationState) (base at : ℕ) (is : List Item)
    (last : NotationState) (cost : ℕ)
    (rest : List ℕ) : Type 0 where
  pub well : WellFormed z words start (spelled_rows (canonicals is) ++ (rows_of (canonical (plain 0 0 17)) ++ rest))
  pub comes : RowsReachEntry words start base (spelled_rows (canonicals is) ++
      (rows_of (canonical (plain 0 0 17)) ++ rest))
      (entry_with at (base + cost + 19) (length (spelled_rows (canonicals is)) + 2) last rest)

pub Entered-reads : {z : Size} {words : List ℕ} {start last : NotationState} {is : List Item} {cost : ℕ} (base at : ℕ)
    (rest : List ℕ) → IsDirective start.directive → Reads z words start is last cost → last.directive ≡ E_F + 2 * at
    → 44 ≤ at → at < locations z → Entered z words start base at is last cost rest
Entered-reads {z} {words} {start} {last} {is} {cost} base at rest set reads aim low high =
    let e = entering_at z words last at aim low high in
    let m = locations_most z in
    let three : last.directive / 4096 ≡ 3 = omega (arith, aim) in
    let end : cost_of last (canonical (plain 0 0 17)) ≡ 19 = rw three refl in
    record {
      well = sound_well (canonicals is) rest set reads.are_read reads.are_sound (is_written (plain 0 0 17) refl)
          (ap (λ (n : NotationState). is_entry n (plain 0 0 17)) reads.folds ∙ e.enters)
          (subst (λ (n : NotationState). EndsSound z words n (canonical (plain 0 0 17))) (sym reads.folds) e.sound);
      comes = record {
        before = canonicals is;
        last = canonical (plain 0 0 17);
        are_read = reads.are_read;
        is_written = is_written (plain 0 0 17) refl;
        notation_is = sym reads.folds;
        is_entry = e.enters;
        rows_are = refl;
        last_is = refl;
        at_is = sym e.place;
        word_is = refl;
        cost_is = omega (arith, reads.costs_are, end);
        read_is = refl;
      };
    }

-- ---- words laid one after the other

module _ (words : List ℕ) where
  -- they leave the other words
  pub laid_other : (q : ℕ) (ws : List ℕ) (placed : List (ℕ × ℕ)) (a : ℕ) → ((i : ℕ) → i < length ws → a ≢ q + i)
      → get_or (over (laid q ws placed) words) a 0 ≡ get_or (over placed words) a 0
  laid_other q [] placed a apart = refl
  laid_other q (w ∷ ws) placed a apart =
      let here : a ≢ q = (let first = apart 0 (omega arith) in omega arith) in
      laid_other (q + 1) ws ((q, w) ∷ placed) a (λ i l. let next = apart (suc i) (omega arith) in omega arith)
      ∙ get_or-set_other (over placed words) q a w 0 here

  -- and each of them is at its place
  pub laid_at : (q : ℕ) (ws : List ℕ) (placed : List (ℕ × ℕ)) (i : ℕ) → i < length ws → q + length ws ≤ length words
      → get_or (over (laid q ws placed) words) (q + i) 0 ≡ get_or ws i 0
  laid_at q [] placed i l fits = absurd (omega arith)
  laid_at q (w ∷ ws) placed zero l fits = search (rules, laid_other, get_or-set_same, length-over)
  laid_at q (w ∷ ws) placed (suc i) l fits =
      search (rules, laid_at (q + 1) ws ((q, w) ∷ placed) i (omega arith) (omega arith))

-- ---- the interlude

-- its orders as items; the last one is the number
abbrev orders : ℕ → List Item
orders n =
    plain 28 6 18 ∷ plain 28 6 18 ∷ plain 7 45 17 ∷ plain 28 5 18 ∷ plain 3 25 17 ∷ plain 5 0 17 ∷ plain 0 n 17 ∷ []

abbrev pub interlude_items : ℕ → List Item
interlude_items n = plain 5 100 14 ∷ plain 27 0 14 ∷ (orders n ++ plain 3 100 14 ∷ [])

module _ (z : Size) (words : List ℕ) (n : ℕ) (small : n ≤ 510) where
  abbrev pub interlude_placed : List (ℕ × ℕ)
  interlude_placed = laid 100 (block words 200 (orders n)) []

  abbrev pub interlude_note : NotationState
  interlude_note = record { directive = 12488; theta = 200; placed = interlude_placed }

  pub interlude_reads : Reads z words (opening words) (interlude_items n) interlude_note
      (344 + 9 * length (digits_of n))
  interlude_reads = search rules

-- ---- the program

-- its items: the words that are printed, and the orders that print them
abbrev pub printed_words : List Item
printed_words = plain 15 0 17 ∷ plain 21 0 17 ∷ plain 8 0 17 ∷ []

abbrev pub printing_orders : List Item
printing_orders = plain 9 0 21 ∷ plain 9 1 21 ∷ plain 9 2 21 ∷ plain 13 0 17 ∷ []

abbrev pub program_items : List Item
program_items = printed_words ++ plain 5 64 14 ∷ (printing_orders ++ plain 3 64 14 ∷ [])

module _ (z : Size) (words : List ℕ) (n theta : ℕ) (low : 34 ≤ n) (fits : 2 * n + 3 ≤ locations z) where
  abbrev pub from_return : NotationState
  from_return = record { directive = T_F + 2 * (2 * n); theta = theta; placed = [] }

  abbrev pub words_placed : List (ℕ × ℕ)
  words_placed = laid (2 * n) (block words theta printed_words) []

  abbrev pub program_placed : List (ℕ × ℕ)
  program_placed = laid 64 (block words theta printing_orders) words_placed

  abbrev pub program_note : NotationState
  program_note = record { directive = 12416; theta = theta; placed = program_placed }

  -- the words that are printed are at 68 and above
  apart : (j : ℕ) → j < 56 → get_or (over words_placed words) j 0 ≡ get_or words j 0
  apart j l = laid_other words (2 * n) (block words theta printed_words) [] j (λ i m. omega arith)

  pub program_reads : Reads z words from_return program_items program_note 259
  program_reads =
      let n1 : NotationState = record { directive = T_F + 2 * (2 * n + 3); theta = theta; placed = words_placed } in
      let n2 : NotationState = record { directive = 20608; theta = theta; placed = words_placed } in
      let n3 : NotationState = record { directive = 20616; theta = theta; placed = program_placed } in
      let high = locations_least z in
      let first = placing_all {z = z} {words = words} words {notation = from_return} (2 * n) printed_words refl refl
      (omega arith) (omega arith) (λ j l. refl) in
      let aims = reads_one z words (plain 5 64 14) refl (Does-aiming z words n1 64 (lit≤ tt)) (reads_none z words n2) in
      let second = placing_all {z = z} {words = words} words {notation = n2} 64 printing_orders refl refl (lit≤ tt)
      (omega arith) apart in
      let tail = reads_one z words (plain 3 64 14) refl (aiming_entry z words n3 64 (lit≤ tt))
      (reads_none z words program_note) in
      reads_both z words first (reads_both z words aims (reads_both z words second tail))
