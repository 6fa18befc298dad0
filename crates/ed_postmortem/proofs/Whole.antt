-- The post-mortem from its start to its stop.
use Rattle.ed_postmortem.proofs.Kit.{T_F, Sheet, Ending, Stopped, Frame, Leads, get_above, IsRun, length-append}
use Rattle.ed_postmortem.proofs.Kit.{locations_most, block, block_cost, [], ap, arith, Bool, drop, false, get_or, inl}
use Rattle.ed_postmortem.proofs.Kit.{inr, length, List, Option, refl, subst, suc, sym, zero, ℕ, ◌*◌, ◌++◌, ◌+◌, ◌-◌}
use Rattle.ed_postmortem.proofs.Kit.{◌^◌, ◌∙◌, ◌≡◌, ◌≤◌, locations, locations_least, Obeyed, step, State, state_after}
use Rattle.ed_postmortem.proofs.Kit.{Moment, patched, TapeEntry, over, IsPrinted, printed_codes, words_orders}
use Rattle.ed_postmortem.proofs.Kit.{tape_rows, rules}
use Rattle.ed_initial.proofs.Kit.{set, IsStore, start_state, at_entry, entry_words, ReachesEntry, initial_orders}
use Rattle.std.proofs.lemmas.List.{get_or-set_same, get_or-set_other, length-set, length-drop}
use Rattle.ed_machine.proofs.Kit.Frames.{state}
use Rattle.ed_machine.proofs.Kit.Paths.{Leads-path}
use Rattle.ed_machine.proofs.Kit.Window.{get_below}
use Rattle.ed_machine.proofs.Steps.{after_sum}
use Rattle.ed_notation.proofs.Placing.{over_laid}
use Rattle.ed_initial.specs.Entry.{IsLoaded}
use Rattle.ed_initial.specs.Load.{orders_of}
use Rattle.ed_initial.specs.Rests.{initial_words}
use Rattle.ed_initial.specs.declared.loading.Loaded.{Loaded}
use Rattle.ed_postmortem.specs.Answers.{IsUntouched, InRange, begun_on, needed_of, room_of}
use Rattle.ed_postmortem.proofs.Bounds.{all_few, few_digits}
use Rattle.ed_postmortem.proofs.Entry.{listing, parameters}
use Rattle.ed_postmortem.proofs.Lists.{block_window, behind_head, drop_window, headed_same}
use Rattle.ed_postmortem.proofs.Paths.{Given, Work, cells, ready, f, moment, PrintsAll, prints_all}
use Rattle.ed_postmortem.proofs.Stops.{behind_stop, run_stops}
use Rattle.ed_postmortem.proofs.Entry as tape

-- what is printed, and in how many orders, depends only on the words from the first one upwards
same_words : (count : ℕ) (xs ys : List ℕ) (p : ℕ) → ((i : ℕ) → p ≤ i → get_or xs i 0 ≡ get_or ys i 0)
    → (printed_codes xs p count ≡ printed_codes ys p count) × (words_orders xs p count ≡ words_orders ys p count)
unfolding printed_codes words_orders
same_words zero xs ys p h = (refl, refl)
same_words (suc count) xs ys p h =
    let rest = same_words count xs ys (p + 1) (λ i l. h i (omega arith)) in
    rw (h p (omega arith), rest.0, rest.1) (refl, refl)

-- what the orders of the tape cost
listing_cost : block_cost listing ≡ 3102
listing_cost = refl

-- the cells as the tape places them; `ready` has the two that name the first word and the count
abbrev placed_work : Work
placed_work = record { at5 = 0; at8 = 0; at19 = 49410; at78 = 0; at79 = 0; at80 = 0; at81 = 0; at82 = 0; at83 = 0 }

module _ {s : State} {first count : ℕ} (store : IsStore s.store) (range : InRange s first count) where
  -- the machine started on the tape
  abbrev b : State
  b = begun_on s first count

  pub f_fits : first ≤ 1024
  f_fits = omega (arith, range.within, locations_most s.size)

  pub c_fits : count ≤ 1024
  c_fits = omega (arith, range.within, locations_most s.size)

  room : 56 + 84 ≤ locations s.size
  room = omega (arith, locations_least s.size)

  -- its words
  abbrev ws : List ℕ
  ws = initial_orders ++ drop 41 s.store.words

  long : length ws ≡ 1024
  long = length-append initial_orders (drop 41 s.store.words)
      ∙ omega (arith, length-drop 41 s.store.words, store.words_are)

  abbrev entry : TapeEntry
  entry = tape.entry s.size ws first count f_fits c_fits

  few_cost : entry.cost ≤ 10000
  few_cost = omega (arith, few_digits first, few_digits count, listing_cost)

  comes : ReachesEntry b entry
  comes = record {
    well = tape.well s.size ws first count f_fits c_fits;
    comes = tape.comes s.size ws first count f_fits c_fits;
  }

  -- a load of the tape, and where it led
  pub record LoadsTape (t : State) (r : Loaded) : Type 0 where
    pub is : IsLoaded b entry r t
    pub after : t ≡ state_after (orders_of r) b

  -- the load of a machine that was started on the tape
  pub loads_so : {m0 m1 : State} {image rows : List ℕ} {r : Loaded} → image ≡ initial_orders
      → rows ≡ tape_rows first count → m0 ≡ start_state image rows s
      → ((e : TapeEntry) → ReachesEntry m0 e → IsLoaded m0 e r m1)
      → m1 ≡ state_after (orders_of r) m0 → LoadsTape m1 r
  loads_so {m0} {m1} {r = r} e h is loads after =
      let same : m0 ≡ b = is ∙ (λ i. start_state (e i) (h i) s) in
      record {
        is = subst (λ (x : State). ReachesEntry x entry → IsLoaded x entry r m1) same (loads entry) comes;
        after = subst (λ (x : State). m1 ≡ state_after (orders_of r) x) same after;
      }

  -- the orders done at the entry
  pub orders_then : {t : State} {r : Loaded} → LoadsTape t r → t.orders ≤ s.orders + 10000
  orders_then {t} l = let e : t.orders ≡ s.orders + entry.cost = ap (λ (x : State). x.orders) l.is.state_is
      in omega (arith, few_cost)

  -- the two words that the head of the tape places, over the store
  abbrev placed : List ℕ
  placed = set (set ws 45 (2 * first)) 46 (2 * count)

  placed_long : length placed ≡ 1024
  placed_long = length-set (set ws 45 (2 * first)) 46 (2 * count) ∙ length-set ws 45 (2 * first) ∙ long

  at45 : get_or placed 45 0 ≡ 2 * first
  at45 =
      get_or-set_other (set ws 45 (2 * first)) 46 45 (2 * count) 0 (omega arith)
      ∙ get_or-set_same ws 45 (2 * first) 0 (omega (arith, long))

  at46 : get_or placed 46 0 ≡ 2 * count
  at46 = get_or-set_same (set ws 45 (2 * first)) 46 (2 * count) 0 (omega (arith, length-set ws 45 (2 * first), long))

  -- the words of the post-mortem, as the tape places them
  block_is : block placed 112 listing ≡ cells (ready first count placed_work)
  block_is = search (rules, f, f_fits, c_fits, at45, at46, cells, ready)

  -- the locations 0 to 43 at the entry
  abbrev head : List ℕ
  head = initial_words (entry_words entry)

  -- the store at the entry, less the post-mortem's own words
  abbrev around : List ℕ
  around = head ++ drop 44 placed

  around_long : length around ≡ 1024
  around_long = length-append head (drop 44 placed) ∙ omega (arith, length-drop 44 placed, placed_long)

  at_words : head ++ drop 44 (over entry.notation.placed ws)
      ≡ patched 0 around 56 (cells (ready first count placed_work))
  at_words =
      let cs : List ℕ = cells (ready first count placed_work) in
      ap (λ x. head ++ drop 44 x)
      (over_laid ws 56 (block placed 112 listing) (parameters s.size ws first count f_fits c_fits)
      (omega (arith, long)))
      ∙ ap (λ x. head ++ drop 44 x) (block_window placed 56 (block placed 112 listing) (omega (arith, placed_long)))
      ∙ ap (λ x. head ++ drop 44 (patched 0 placed 56 x)) block_is
      ∙ ap (λ x. head ++ x) (drop_window 44 placed cs 12 (omega (arith, placed_long)))
      ∙ sym (behind_head head (drop 44 placed) cs 12)

  abbrev digits : List Bool
  digits = set s.store.sandwich 20 false

  abbrev given : Given
  given = record {
    size = s.size;
    sandwich = digits;
    room = room;
    ws = around;
    tape = [];
    at2 = refl;
    all = around_long;
  }

  abbrev frame : Frame 84 0
  frame = f given

  abbrev place : Work → ℕ → ℕ → ℕ → Option ℕ → Moment
  place = moment given

  abbrev unit : ℕ
  unit = T_F * 2 ^ 18

  -- the state at the entry, seen as one of the post-mortem's
  entered : at_entry b entry
      ≡ state frame (place (ready first count placed_work) 0 unit 0 s.last) (s.orders + entry.cost)
  entered = search (rules, at_words)

  -- a word that is left, in the store around the post-mortem
  kept : (i : ℕ) → IsUntouched i → get_or around i 0 ≡ get_or s.store.words i 0
  kept i l =
      headed_same head placed i (omega (arith, l.above))
      ∙ get_or-set_other (set ws 45 (2 * first)) 46 i (2 * count) 0 l.no_46
      ∙ get_or-set_other ws 45 i (2 * first) 0 l.no_45
      ∙ headed_same initial_orders s.store.words i (omega (arith, l.above))

  -- no location above the post-mortem's is changed
  far : (i : ℕ) → 140 ≤ i → IsUntouched i
  far i h = search rules

  kept_far : (i : ℕ) → first ≤ i → get_or around i 0 ≡ get_or s.store.words i 0
  kept_far i h = let low = range.above in kept i (far i (omega arith))

  left_words : (i : ℕ) → IsUntouched i → (w : Work)
      → get_or (patched 0 around 56 (cells w)) i 0 ≡ get_or s.store.words i 0
  left_words i l w = elim l.apart [
    | inl below ↦ get_below 0 around 56 (cells w) i below ∙ kept i l
    | inr above ↦ get_above 0 around 56 (cells w) i (omega arith) ∙ kept i l
  ]

  -- all words, and then the stop
  all : PrintsAll given first count unit placed_work s.last
  all =
      prints_all given first count (omega (arith, range.above)) range.within
      (λ i h. let e = kept i (far i h) in omega (arith, e, store.fits i))

  abbrev k : ℕ
  k = words_orders around first count + 3

  abbrev done : ℕ
  done = s.orders + entry.cost

  abbrev begins : State
  begins = state frame (place (ready first count placed_work) 0 unit 0 s.last) done

  abbrev stands : State
  stands = state frame (place (ready (first + count) 0 all.work) 131070 all.unit 63 all.last_code) (done + k)

  abbrev ends : State
  ends = state frame (place (ready (first + count) 0 all.work) 131070 all.unit 64 all.last_code) (done + k + 1)

  goes : Leads k begins (printed_codes around first count) stands
  goes = Leads-path all.path done

  stop : step stands ≡ record { state = ends; turn = Stopped }
  stop = all.stops.does (done + k)

  codes_are : printed_codes around first count ≡ printed_codes s.store.words first count
  codes_are = (same_words count around s.store.words first kept_far).0

  orders_are : words_orders around first count ≡ words_orders s.store.words first count
  orders_are = (same_words count around s.store.words first kept_far).1

  few : suc k ≤ 230000
  few = omega (arith, all_few count around first, range.within, range.above, locations_most s.size)

  -- the load and the run print the words
  pub IsPrinted-run : {limit : ℕ} {loaded t : State} {sheet full : Sheet} {r : Loaded} {ending : Ending}
      → LoadsTape loaded r
      → IsRun limit 0 loaded sheet ending t full → 230000 ≤ limit → needed_of s first count ≤ room_of sheet
      → IsPrinted s sheet first count (t.orders - s.orders) t full × (s.orders ≤ t.orders)
  IsPrinted-run {limit} {loaded} {t} {sheet} {full} {r} {ending} l run enough roomy =
      let here : loaded ≡ begins = l.is.state_is ∙ entered in
      let at : state_after entry.cost b ≡ begins =
      ap (λ (x : Loaded). state_after (orders_of x) b) (sym l.is.result_is) ∙ sym l.after ∙ here in
      let space : length (printed_codes around first count) ≤ room_of sheet = rw codes_are roomy in
      let from : IsRun limit 0 begins sheet ending t full =
      subst (λ (x : State). IsRun limit 0 x sheet ending t full) here run in
      let ran = run_stops goes stop from (omega (arith, few, enough)) space in
      let left : t ≡ ends = ran.0 in
      let orders : t.orders ≡ done + k + 1 = ap (λ (x : State). x.orders) left in
      let n : t.orders - s.orders ≡ entry.cost + suc k = omega arith in
      let whole : state_after (entry.cost + suc k) b ≡ ends =
      after_sum entry.cost (suc k) b ∙ ap (state_after (suc k)) at
      ∙ behind_stop goes stop in
      let before : state_after (entry.cost + k) b ≡ stands = after_sum entry.cost k b ∙ ap (state_after k) at
      ∙ goes.state_is in (
        record {
          entry = entry;
          comes = comes;
          orders_are = omega (arith, n, orders_are);
          state_is = left ∙ sym whole ∙ ap (λ j. state_after j b) (sym n);
          before = entry.cost + k;
          last = omega (arith, n);
          stops = ap (λ (x : State). (step x).turn) before ∙ ap (λ (x : Obeyed). x.turn) stop;
          sheet_is = ran.1 ∙ ap (λ (x : List ℕ). record { codes = sheet.codes ++ x; room = sheet.room }) codes_are;
          words_are = λ i l. ap (λ (x : State). get_or x.store.words i 0) left
              ∙ left_words i l (ready (first + count) 0 all.work);
          digits_are = λ i l.
              ap (λ (x : State). get_or x.store.sandwich i false) left
              ∙ get_or-set_other s.store.sandwich 20 i false false l;
        },
        omega arith,
      )
