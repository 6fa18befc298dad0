-- The two programs of the tape `examples/interlude.tape`, for any number: the interlude from its entry to its return,
-- and the program after it from its entry to its stop.
use Rattle.ed_programs.proofs.TapeRuns.{entry_with}
use Rattle.ed_programs.proofs.Kit.{frame_from, moment_at, ◌<◌, H_F, O_F, T_F, Z_F, Size, O, Z, at_entry, set, along}
use Rattle.ed_programs.proofs.Kit.{to_stop, E_jumps, U, prints, any, early, out, IsStore, directive, IsReturned}
use Rattle.ed_programs.proofs.Kit.{list_all-numbers, numbers, [], ap, arith, drop, false, get_or, length, List, lit<}
use Rattle.ed_programs.proofs.Kit.{lit≤, nat_eq, Option, refl, rules, Some, subst, suc, true, zero, ℕ, ◌*◌, ◌+◌, ◌-◌}
use Rattle.ed_programs.proofs.Kit.{◌∙◌, ◌∷◌, ◌≡◌, ◌≤◌, list_all, eqb-true, lt-ltb, locations, locations_least}
use Rattle.ed_programs.proofs.Kit.{locations_most, short_at, State, Frame, Moment, short, state, Leads, A, Leads-path}
use Rattle.ed_programs.proofs.Kit.{on, Path, stay, own, patched, ReachesStop, TapeEntry, over, first_state, sym}
use Rattle.ed_programs.proofs.Kit.{patched_self}
use Rattle.std.proofs.Common.{slice_index}
use Rattle.std.proofs.lemmas.List.{get_or-append_right, get_or-drop, length-drop}
use Rattle.ed_notation.specs.Fold.{word_with}
use Rattle.ed_initial.specs.Entry.{entry_words}
use Rattle.ed_initial.specs.Listing.{initial_orders}
use Rattle.ed_initial.specs.Rests.{initial_words}
use Rattle.ed_initial.proofs.Starts.{all_fit}
use Rattle.ed_interlude.specs.Returned.{AreListed, reopening}
use Rattle.ed_notation.proofs.Placing.{block}
use Rattle.ed_programs.proofs.InterludeLoads.{laid_at, laid_other, printed_words, printing_orders, words_placed}
use Rattle.ed_programs.proofs.InterludeLoads.{from_return, interlude_note, program_note, program_placed}
use Rattle.ed_programs.proofs.TwoPartsRuns.{IsAway, IsAway-path, away_to_stop}

-- ---- the interlude

-- its words, with the number in the last one
abbrev pub cells : ℕ → List ℕ
cells n = 114900 ∷ 114900 ∷ 28762 ∷ 114898 ∷ 12338 ∷ T_F ∷ word_with 0 n false 0 ∷ []

module _ (z : Size) (tape_rows rest : List ℕ) (n cost read : ℕ) (small : n ≤ 510) where
  abbrev pub entry : TapeEntry
  entry = entry_with 100 cost read (interlude_note z (first_state z tape_rows).store.words n small) rest

  abbrev pub s : State
  s = at_entry (first_state z tape_rows) entry

  long : length s.store.words ≡ 1024
  unfolding first_state
  long = refl

  same : patched 0 s.store.words 100 (cells n) ≡ s.store.words
  unfolding first_state patched
  same = refl

  abbrev f : Frame 7 0
  f = frame_from 7 100 z (lit≤ tt)

  abbrev at : ℕ → List ℕ → ℕ → Moment
  at i words acc =
      record (moment_at s) { words = words; cells = cells n; acc = acc; counter = 100 + i; last = s.last }

  begins : state f (at 0 s.store.words 0) s.orders ≡ s
  unfolding first_state
  begins = λ i. record s { store = record { words = same i; sandwich = s.store.sandwich } }

  -- the moment of the return
  abbrev returning : Moment
  returning = record (at 0 (set s.store.words 45 (4 * n)) (short (T_F + 4 * n))) { counter = 25 }

  abbrev path : Path f 5 (at 0 s.store.words 0) [] returning
  path =
      let size = locations_least z in
      on (A 0 (own 6) (short (2 * n)) refl (omega arith))
      (on (A 1 (own 6) (short (4 * n)) refl (omega arith))
      (on (U 2 (out 45 (early 45 (lit≤ tt) (lit< tt) long)) _ refl refl)
      (on (A 3 (own 5) (short (T_F + 4 * n)) refl (omega arith))
      (on (E_jumps 4 (any 25 (omega arith)) refl (omega arith)) stay))))

  abbrev pub back : State
  back = state f returning (s.orders + 5)

  pub interlude_leads : Leads 5 s [] back
  interlude_leads = subst (λ (x : State). Leads 5 x [] back) begins (Leads-path path s.orders)

  pub interlude_away : IsAway 5 s
  interlude_away =
      subst (λ (x : State). IsAway 5 x) begins
      (IsAway-path path (lit≤ tt, (lit≤ tt, (lit≤ tt, (lit≤ tt, (lit≤ tt, tt))))) s.orders)

  -- the Initial Orders are unchanged
  listed : (first count : ℕ)
      → list_all (λ i. nat_eq (short_at back.store i) (slice_index initial_orders i)) (numbers first count) ≡ true
      → AreListed back.store first (first + count)
  listed first count test i low high =
      eqb-true (short_at back.store i) (slice_index initial_orders i)
      (list_all-numbers (λ i. nat_eq (short_at back.store i)
      (slice_index initial_orders i)) first count i test low high)

  pub returned : IsReturned back
  unfolding first_state patched
  returned = record {
    counter = refl;
    low = listed 2 18 refl;
    middle = listed 21 1 refl;
    high = listed 23 17 refl;
    one = refl;
    multiplier = refl;
    leaves = omega arith;
  }

  pub back_store : IsStore back.store
  unfolding first_state patched
  back_store = record {
    words_are = refl;
    digits_are = refl;
    fits =
        let a = lt-ltb (4 * n) 131072 (omega arith) in
        let b = lt-ltb (word_with 0 n false 0) 131072 (omega arith) in
        all_fit back.store.words (rw (a, b) refl);
  }

  -- the words at the return: what the letter H stands for, and θ
  abbrev W : List ℕ
  W = back.store.words

  known : (get_or W 45 0 ≡ 4 * n) × (get_or W 42 0 ≡ 200) × (length W ≡ 1024)
  unfolding first_state patched
  known = (refl, refl, refl)

  -- ---- the program after it

  module _ (low : 34 ≤ n) (fits : 2 * n + 3 ≤ locations z) (end : ℕ) where
    pub reopening-back : reopening back ≡ from_return z W n 200 low fits
    reopening-back =
        let d : directive back ≡ T_F + 2 * (2 * n) = omega arith in
        λ i. record { directive = d i; theta = known.1 i; placed = [] }

    abbrev pub entry_on : TapeEntry
    entry_on = entry_with 64 280 end (program_note z W n 200 low fits) []

    abbrev pub m : State
    m = at_entry back entry_on

    -- a word above 43 is the last one that was placed there
    abbrev contents : List ℕ
    contents = over (program_placed z W n 200 low fits) W

    placed_there : (a : ℕ) → 44 ≤ a → get_or m.store.words a 0 ≡ get_or contents a 0
    placed_there a above =
        let there : 44 + (a - 44) ≡ a = omega arith in
        get_or-append_right (initial_words (entry_words entry_on)) (drop 44 contents) 44 a 0 refl above
        ∙ get_or-drop 44 contents (a - 44) 0
        ∙ ap (λ x. get_or contents x 0) there

    orders_there : (i : ℕ) → i < 4 → get_or m.store.words (64 + i) 0 ≡ get_or (block W 200 printing_orders) i 0
    orders_there i few =
        placed_there (64 + i) (omega arith)
        ∙ laid_at W 64 (block W 200 printing_orders) (words_placed z W n 200 low fits) i few (omega (arith, known.2))

    words_there : (i : ℕ) → i < 3 → get_or m.store.words (2 * n + i) 0 ≡ get_or (block W 200 printed_words) i 0
    words_there i few =
        let size = locations_most z in
        placed_there (2 * n + i) (omega arith)
        ∙ laid_other W 64 (block W 200 printing_orders) (words_placed z W n 200 low fits) (2 * n + i)
        (λ j l. omega arith)
        ∙ laid_at W (2 * n) (block W 200 printed_words) [] i few (omega (arith, known.2))

    m_long : length m.store.words ≡ 1024
    m_long = search (rules, length-drop, known.2)

    -- the orders that print, and the word after them
    abbrev cells_on : List ℕ
    cells_on =
        (O_F + 2 * (2 * n + 0)) ∷ (O_F + 2 * (2 * n + 1)) ∷ (O_F + 2 * (2 * n + 2)) ∷ Z_F
        ∷ get_or m.store.words 68 0 ∷ []

    same_on : patched 0 m.store.words 64 cells_on ≡ m.store.words
    same_on = patched_self 0 m.store.words 64 cells_on (omega (arith, m_long)) each
      where
        order_is : (i : ℕ) → i ≤ 2 → O_F + 2 * (2 * n + i) ≡ word_with 9 i false (get_or W 45 0)
        order_is i few = omega (arith, known.0)

        each : (j : ℕ) → j < 5 → get_or cells_on j 0 ≡ get_or m.store.words (64 + j) 0
        each zero l = order_is 0 (lit≤ tt) ∙ sym (orders_there 0 (lit< tt))
        each (suc zero) l = order_is 1 (lit≤ tt) ∙ sym (orders_there 1 (lit< tt))
        each (suc (suc zero)) l = order_is 2 (lit≤ tt) ∙ sym (orders_there 2 (lit< tt))
        each (suc (suc (suc zero))) l = sym (orders_there 3 (lit< tt))
        each (suc (suc (suc (suc zero)))) l = refl
        each (suc (suc (suc (suc (suc j))))) l = absurd (omega arith)

    abbrev g : Frame 5 0
    g = frame_from 5 64 z (lit≤ tt)

    abbrev at_on : ℕ → Option ℕ → Moment
    at_on i last = record (moment_at m) { cells = cells_on; counter = 64 + i; last = last }

    begins_on : state g (at_on 0 m.last) m.orders ≡ m
    begins_on = λ i. record m { store = record { words = same_on i; sandwich = m.store.sandwich } }

    abbrev path_on : Path g 3 (at_on 0 m.last) (15 ∷ 21 ∷ 8 ∷ []) (at_on 3 (Some 8))
    path_on =
        let shown = λ (a x : ℕ) (is : get_or m.store.words a 0 ≡ x). ap (λ (ws : List ℕ). get_or ws a 0) same_on ∙ is in
        let a = shown (2 * n + 0) 61440 (words_there 0 (lit< tt)) in
        let b = shown (2 * n + 1) H_F (words_there 1 (lit< tt)) in
        let c = shown (2 * n + 2) 32768 (words_there 2 (lit< tt)) in
        prints (O 0 (any (2 * n + 0) (omega arith)) 15 refl (omega (arith, a)))
        (prints (O 1 (any (2 * n + 1) (omega arith)) 21 refl (omega (arith, b)))
        (prints (O 2 (any (2 * n + 2) (omega arith)) 8 refl (omega (arith, c))) stay))

    pub program_stops : ReachesStop 3 m (15 ∷ 21 ∷ 8 ∷ []) 68
    program_stops =
        subst (λ (x : State). ReachesStop 3 x (15 ∷ 21 ∷ 8 ∷ []) 68) begins_on
        (to_stop (along path_on) (Z 3 Z_F refl refl) m.orders)

    pub program_away : IsAway 4 m
    program_away =
        subst (λ (x : State). IsAway 4 x) begins_on
        (away_to_stop (Leads-path path_on m.orders) (IsAway-path path_on (lit≤ tt, (lit≤ tt, (lit≤ tt, tt))) m.orders)
        (omega arith))
