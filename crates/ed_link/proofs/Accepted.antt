-- The tape of an accepted source, row by row.
use Rattle.ed_link.proofs.Kit.{reverse, sum_by, E_F, Size, AreSpellable, Item, all_rows_are, [], ap, append_assoc}
use Rattle.ed_link.proofs.Kit.{arith, Bool, false, length, length-append, List, None, Option}
use Rattle.ed_link.proofs.Kit.{refl, subst, sym, true, ℕ, ◌*◌, ◌++◌, ◌+◌, ◌∙◌, ◌∷◌, ◌≡◌, list_all, cost_of}
use Rattle.ed_link.proofs.Kit.{is_entry, item_word, NotationState, canonical, canonicals, SourceFault, Line, is_line}
use Rattle.ed_link.proofs.Kit.{catalogue, is_ready, first_counter, any_enter, earlier_fault, fault, missing}
use Rattle.ed_link.proofs.Kit.{data_after, linked_words, symbols_of, theta_from, item_with, punched_items, item_cost}
use Rattle.ed_notation.proofs.Kit.{append-nil, RowsReachEntry, WellFormed, address, IsWritten, rows_of, spelled_rows}
use Rattle.ed_notation.proofs.Kit.{IsDirective}
use Rattle.std.proofs.Common.{slice_index}
use Rattle.std.proofs.lemmas.List.Sums.{sum_by-append}
use Rattle.ed_notation.specs.Items.{item as item_in}
use Rattle.ed_notation.specs.Openings.{opening}
use Rattle.ed_notation.proofs.Canonical.{is_written}
use Rattle.ed_notation.proofs.Cuts.{spelled-append, canonicals-append}
use Rattle.ed_notation.proofs.Sound.{sound_well}
use Rattle.ed_link.specs.Linked.{entry_of}
use Rattle.ed_link.specs.Tapes.{punched_rows, tape, arrival}
use Rattle.ed_link.proofs.Costs.{entry_cost_is}
use Rattle.ed_link.proofs.Inductions.{AreFaultless, Ends, Ends-faultless}
use Rattle.ed_link.proofs.Passes.{Reads-taken}
use Rattle.ed_link.proofs.Spelled.{AreSpellable-joined}
use Rattle.ed_link.proofs.Kit.{rules}

-- neither of two is a fault
none_of : (a b : Option SourceFault) → earlier_fault a b ≡ None → (a ≡ None) × (b ≡ None)
none_of a b h = grind arith

-- there is an `enter`
there_is : (has_enter : Bool) (n : ℕ) → missing has_enter n ≡ None → has_enter ≡ true
there_is has_enter n h = grind arith

abbrev last_item : Item
last_item = item_with 0 0 false 17

-- the directive before the first item
first : (words : List ℕ) → IsDirective 20568
first words = record { no_1 = omega arith; no_2 = omega arith; no_4 = omega arith; most = omega arith }

module _ (tables : list_all is_ready catalogue ≡ true) (z : Size) (two : Bool) (lines : List Line)
    (accepted : fault z lines
    ≡ None) (formed : list_all (is_line two) lines ≡ true) (words : List ℕ) (whole : length words ≡ 1024) where
  an_end : Ends z words (symbols_of lines) (slice_index words 42) first_counter (opening words) lines
  an_end =
      let a = none_of _ _ accepted in
      let b = none_of _ _ a.1 in
      let has_enter = there_is _ _ b.1 in
      let are : AreFaultless z (symbols_of lines) (any_enter lines) two (record { extents = []; entered = false }) []
      first_counter lines = record { formed = formed; sound = b.0; named = a.0; before = refl; enter = has_enter } in
      Ends-faultless tables whole two lines are (record { base = omega arith; follows = λ h. cc; theta_is = refl })

  by_end : Ends z words (symbols_of lines) (slice_index words 42) first_counter (opening words) lines
      → WellFormed z words (opening words) (tape lines)
      × RowsReachEntry words (opening words) 9 (tape lines) (arrival words lines)
  by_end e =
      let ws = canonicals e.before in
      let w = canonical last_item in
      let t = Reads-taken e.passes e.spelled in
      let good : IsWritten w = is_written last_item refl in
      let cut : canonicals (punched_items lines) ≡ ws ++ (w ∷ []) = ap (λ is. canonicals is) e.items
      ∙ canonicals-append e.before _ in
      let rows : punched_rows lines ≡ spelled_rows ws ++ rows_of w =
      all_rows_are _ ∙ ap (λ x. spelled_rows x) cut ∙ spelled-append ws (w ∷ [])
      ∙ ap (λ x. spelled_rows ws ++ x) (append-nil (rows_of w)) in
      let all : tape lines ≡ spelled_rows ws ++ (rows_of w ++ data_after lines) =
      ap (λ x. x ++ data_after lines) rows ∙ append_assoc _ (rows_of w) _ in
      let notation : NotationState = record {
        directive = E_F + 2 * entry_of lines;
        theta = theta_from (slice_index words 42) first_counter lines;
        placed = reverse (linked_words lines);
      } in
      let last_is : e.last ≡ notation = λ i. record {
        directive = e.directive i;
        theta = e.theta_is i;
        placed = (e.placed ∙ append-nil _) i;
      } in
      let f = t.folds in
      let enters : is_entry notation last_item ≡ true =
      subst (λ (n : NotationState). is_entry n last_item ≡ true) last_is e.enters.enters in
      let c : sum_by item_cost (punched_items lines) ≡ sum_by item_cost e.before + 23 =
      ap (λ is. sum_by item_cost is) e.items ∙ sum_by-append item_cost e.before _ in
      let d : cost_of notation w ≡ 19 = entry_cost_is notation enters in (
        rw all (sound_well ws _ (first words) t.are_read t.are_sound good
            (ap (λ (n : NotationState). is_entry n (item_in w)) f ∙ e.enters.enters) (rw f e.enters.sound)),
        record {
          before = ws;
          last = w;
          are_read = t.are_read;
          is_written = good;
          notation_is = sym (f ∙ last_is);
          is_entry = enters;
          rows_are = all;
          last_is = refl;
          at_is = sym (subst (λ (n : NotationState). address n.directive ≡ entry_of lines) last_is e.enters.place);
          word_is = sym (subst (λ (n : NotationState). item_word words n (item_in w) ≡ 0) last_is e.enters.word);
          cost_is = omega (arith, t.costs_are, c, d);
          read_is = ap (λ (x : List ℕ). length x) rows ∙ length-append _ (rows_of w);
        },
      )

  pub accepted_law : WellFormed z words (opening words) (tape lines)
      × RowsReachEntry words (opening words) 9 (tape lines) (arrival words lines)
  accepted_law = by_end an_end

  -- the items of its tape can be spelled
  pub can_be_spelled : AreSpellable (punched_items lines)
  can_be_spelled = search (rules, an_end, AreSpellable-joined)
