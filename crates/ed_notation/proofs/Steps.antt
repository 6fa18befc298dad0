-- What the fold does at the items that place words and enter: `T p K`, `E p K`, `G K`, a code letter under T, and the
-- entry item `P F`. None of them breaks a rule, so a tape of them is well formed and its fold is known.
use Rattle.ed_notation.proofs.Kit.{[], false, List, nat_le, nat_lt, refl, true, ℕ, ◌++◌, ◌+◌, ◌<◌, ◌∷◌, ◌≡◌, ◌≤◌}
use Rattle.ed_notation.proofs.Kit.{le-ltb, lt-leb, locations, E_F, T_F, Size, locations_most, ap, arith, ◌%◌, ◌*◌, ◌/◌}
use Rattle.ed_notation.proofs.Kit.{◌∙◌, AreRead, AreSound, breaks, EndsSound, act, address, begun_cost, control_of}
use Rattle.ed_notation.proofs.Kit.{cost_of, costs, fold, is_entry, item_word, letter_action_of, NotationState, Begun}
use Rattle.ed_notation.proofs.Kit.{item, items, row_kind, canonical, canonicals, is_spellable, TapeCause, BadControl}
use Rattle.ed_notation.proofs.Kit.{EntryInLoader, EntryNegative, LoaderStore, NoPlace, StoreEnd, Item, Places, RowKind}
use Rattle.ed_notation.proofs.Kit.{Letter, digits_number, digits_of, le-leb}
use Rattle.std.proofs.Common.{◌^◌}
use Rattle.ed_words.specs.declared.order_words.TheConstants.{G_F}
use Rattle.ed_notation.specs.Faults.{bad_kay}
use Rattle.ed_notation.specs.declared.kind.LetterAction.TheVariants.{Enters as EntersAt}
use Rattle.ed_notation.proofs.Canonical.{is_written, same_item}

-- an item without π
abbrev pub plain : ℕ → ℕ → ℕ → Item
plain f n end = record { function = f; number = n; mark = false; end = end }

module _ (z : Size) (words : List ℕ) where
  -- an item that is not an entry item is read without a fault, and leaves this state
  pub record Does (notation : NotationState) (i : Item) (next : NotationState) : Type 0 where
    pub goes_on : is_entry notation i ≡ false
    pub sound : EndsSound z words notation (canonical i)
    pub acts : act words notation i ≡ next

  -- items are read so one after the other, at this cost
  pub record Reads (notation : NotationState) (is : List Item) (next : NotationState) (cost : ℕ) : Type 0 where
    pub are_read : AreRead words notation (canonicals is)
    pub are_sound : AreSound z words notation (canonicals is)
    pub folds : fold words notation (items (canonicals is)) ≡ next
    pub costs_are : costs words notation (canonicals is) ≡ cost

  pub reads_none : (notation : NotationState) → Reads notation [] notation 0
  reads_none notation = record { are_read = tt; are_sound = tt; folds = refl; costs_are = refl }

  pub reads_one : {notation m : NotationState} (i : Item) {is : List Item} {next : NotationState} {cost : ℕ}
      → is_spellable i ≡ true
      → Does notation i m → Reads m is next cost → Reads notation (i ∷ is) next (cost_of notation (canonical i) + cost)
  reads_one {notation} {m} i {is} can d r =
      let it : item (canonical i) ≡ i = same_item i can in
      let e : act words notation (item (canonical i)) ≡ m = ap (act words notation) it ∙ d.acts in
      record {
        are_read = (is_written i can, ap (is_entry notation) it ∙ d.goes_on, rw e r.are_read);
        are_sound = (d.sound, rw e r.are_sound);
        folds = ap (λ (n : NotationState). fold words n (items (canonicals is))) e ∙ r.folds;
        costs_are = ap (λ (n : NotationState). cost_of notation (canonical i) + costs words n (canonicals is)) e
            ∙ ap (λ k. cost_of notation (canonical i) + k) r.costs_are;
      }

  pub reads_both : {notation m next : NotationState} {is js : List Item} {c d : ℕ} → Reads notation is m c
      → Reads m js next d
      → Reads notation (is ++ js) next (c + d)
  reads_both {is = []} {c = c} {d = d} a b = let e : c + d ≡ d = omega (arith, a.costs_are) in rw (e, a.folds) b
  reads_both {notation} {m} {is = i ∷ is} a b =
      let n = act words notation (item (canonical i)) in
      let rest : Reads n is m (costs words n (canonicals is)) =
      record { are_read = a.are_read.2; are_sound = a.are_sound.1; folds = a.folds; costs_are = refl } in
      let r = reads_both {notation = n} {is = is} rest b in
      record {
        are_read = (a.are_read.0, a.are_read.1, r.are_read);
        are_sound = (a.are_sound.0, r.are_sound);
        folds = r.folds;
        costs_are = omega (arith, r.costs_are, a.costs_are);
      }

  -- K breaks no rule if its function sets something and its number is a location
  pub kay_sound : (notation : NotationState) (f n : ℕ) → bad_kay (control_of f) ≡ false → n ≤ 1023
      → EndsSound z words notation (canonical (plain f n 14))
  kay_sound notation f n good few BadControl = good
  kay_sound notation f n good few StoreEnd =
      let can : is_spellable (plain 27 n 14) ≡ true = rw (le-leb n 32767 (omega arith)) refl in
      let number_is : digits_number 0 (digits_of n) ≡ n = ap (λ (i : Item). i.number) (same_item (plain 27 n 14) can) in
      rw number_is (le-ltb 1023 n few)
  kay_sound notation f n good few cause = refl

  -- T p K
  pub Does-aiming : (notation : NotationState) (p : ℕ) → p ≤ 1023
      → Does notation (plain 5 p 14) (record notation { directive = T_F + 2 * p })
  Does-aiming notation p h = record { goes_on = refl; sound = kay_sound notation 5 p refl h; acts = refl }

  -- E p K
  pub aiming_entry : (notation : NotationState) (p : ℕ) → p ≤ 1023
      → Does notation (plain 3 p 14) (record notation { directive = E_F + 2 * p })
  aiming_entry notation p h = record { goes_on = refl; sound = kay_sound notation 3 p refl h; acts = refl }

  -- G K under a T directive: θ is twice the location
  pub setting_theta : (notation : NotationState) (p : ℕ) → p ≤ 1023 → notation.directive ≡ T_F + 2 * p
      → Does notation (plain 27 0 14) (record notation { theta = 2 * p })
  setting_theta notation p h d = record {
    goes_on = refl;
    sound = kay_sound notation 27 0 refl (omega arith);
    acts = let e : (G_F + notation.directive) % 2 ^ 17 ≡ 2 * p = omega arith in rw e refl;
  }

  -- a code letter breaks no rule under a directive that aims into the store, above the loader
  letter_rule : {r : RowKind} → r ≡ Letter → (notation : NotationState) (b : Begun) (c : ℕ)
      → letter_action_of notation.directive ≡ Places
      → nat_lt (address notation.directive) 44 ≡ false → nat_le (locations z) (address notation.directive) ≡ false
      → (cause : TapeCause) → breaks cause r z words notation b c ≡ false
  letter_rule e notation b c action low high cause = rw e (of cause)
    where
      of : (k : TapeCause) → breaks k Letter z words notation b c ≡ false
      of LoaderStore = rw action low
      of StoreEnd = rw action high
      of NoPlace = rw action refl
      of EntryNegative = rw action refl
      of EntryInLoader = rw action refl
      of k = refl

  -- a code letter under T p K places its word
  pub Does-placing : {notation : NotationState} {i : Item} (place : ℕ) {w : ℕ} → row_kind i.end ≡ Letter
      → notation.directive ≡ T_F + 2 * place → 44 ≤ place → place < locations z → item_word words notation i ≡ w
      → Does notation i (record {
        directive = T_F + 2 * (place + 1);
        theta = notation.theta;
        placed = (place, w) ∷ notation.placed;
      })
  Does-placing {notation} {i} place letter d low high is =
      let m = locations_most z in
      let five : notation.directive / 4096 ≡ 5 = omega arith in
      let action : letter_action_of notation.directive ≡ Places = rw five refl in
      let a : address notation.directive ≡ place = omega arith in
      let n : notation.directive + 2 ≡ T_F + 2 * (place + 1) = omega arith in
      record {
        goes_on = rw (letter, action) refl;
        sound = letter_rule letter notation (canonical i).begun i.end action
            (rw a (le-ltb place 44 low)) (rw a (lt-leb _ place high));
        acts = rw (letter, action, a, is, n) refl;
      }

  -- the orders that read a code letter which places a word
  pub placing_cost : (notation : NotationState) (i : Item) (place : ℕ) → row_kind i.end ≡ Letter
      → notation.directive ≡ T_F + 2 * place → place < locations z
      → cost_of notation (canonical i) ≡ begun_cost (canonical i).begun + 17
  placing_cost notation i place letter d high =
      let m = locations_most z in
      let five : notation.directive / 4096 ≡ 5 = omega arith in
      let action : letter_action_of notation.directive ≡ Places = rw five refl in
      rw (letter, action) refl

  -- the entry item P F
  pub record Enters (notation : NotationState) (p : ℕ) : Type 0 where
    pub enters : is_entry notation (plain 0 0 17) ≡ true
    pub sound : EndsSound z words notation (canonical (plain 0 0 17))
    pub place : address notation.directive ≡ p
    pub word : item_word words notation (plain 0 0 17) ≡ 0

  -- P F under E p K enters
  pub entering_at : (notation : NotationState) (p : ℕ) → notation.directive ≡ E_F + 2 * p → 44 ≤ p → p < locations z
      → Enters notation p
  entering_at notation p d low high =
      let m = locations_most z in
      let three : notation.directive / 4096 ≡ 3 = omega arith in
      let a : address notation.directive ≡ p = omega arith in
      record {
        enters = rw three refl;
        sound = λ cause. by_cause (rw three refl) (rw a (le-ltb p 44 low)) (rw a (lt-leb _ p high)) cause;
        place = a;
        word = refl;
      }
    where
      by_cause : letter_action_of notation.directive ≡ EntersAt → nat_lt (address notation.directive) 44 ≡ false
          → nat_le (locations z) (address notation.directive) ≡ false → (c : TapeCause)
          → breaks c (row_kind 17) z words notation (canonical (plain 0 0 17)).begun 17 ≡ false
      by_cause action l h LoaderStore = rw action refl
      by_cause action l h StoreEnd = rw action h
      by_cause action l h NoPlace = rw action refl
      by_cause action l h EntryNegative = rw action refl
      by_cause action l h EntryInLoader = rw action l
      by_cause action l h c = refl
