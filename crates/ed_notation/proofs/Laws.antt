-- The reader by rows and the rules by items say the same, both ways.
use Rattle.ed_notation.proofs.Kit.{[], inl, inr, length-append, List, None, refl, Some, subst, true, ℕ, ◌+◌, ◌<◌, ◌∷◌}
use Rattle.ed_notation.proofs.Kit.{◌≡◌, ◌≤◌, ◌⊎◌, Size, ap, arith, sym, ◌∙◌, Breaks, cause_number, IsFault}
use Rattle.ed_notation.proofs.Kit.{RowsReachEntry, TapeEntry, WellFormed, address, cost_of, end_cost, entering}
use Rattle.ed_notation.proofs.Kit.{item_word, NotationState, begun_rows, item_of, row_kind, IsDirective, Arrived}
use Rattle.ed_notation.proofs.Kit.{entry_by, Faulty, reading_on, ReadingIsRules, Verdict, TapeCause, RowKind, Letter}
use Rattle.ed_notation.proofs.Kit.{rules}
use Rattle.ed_notation.specs.Reading.{ReadingAlwaysIsRules}
use Rattle.ed_notation.proofs.Follow.{Reader, reads, inside, Goes}
use Rattle.ed_notation.proofs.Least.{cause_number-same}
use Rattle.ed_notation.proofs.Passes.{behind_all, Goes-entry, broken_found}
use Rattle.ed_notation.proofs.Rows.{as_part}
use Rattle.ed_notation.proofs.Tells.{Tells, TellsFault, TellsEntry, Told-tells}
use Rattle.ed_notation.proofs.Verdicts.{row_of}

not_both : {a : ℕ} {k : TapeCause} {e : TapeEntry} → Faulty a k ≡ Arrived e → ⊥
not_both h = cc

sorted : {a b : ℕ} {k l : TapeCause} → (a < b) ⊎ ((a ≡ b) × (cause_number k ≤ cause_number l))
    → (b < a) ⊎ ((b ≡ a) × (cause_number l ≤ cause_number k)) → (a ≡ b) × (k ≡ l)
sorted {k = k} {l} h g = (omega (arith, h, g), cause_number-same k l (omega (arith, h, g)))

-- the ending row of an entry item costs 13
entry_ends : (r : RowKind) (notation : NotationState) → entering r notation ≡ true → end_cost r notation ≡ 13
entry_ends Letter notation h = rw h refl
entry_ends r notation h = cc

module _ (z : Size) (words : List ℕ) (start : NotationState) (base : ℕ) (rows : List ℕ)
    (set : IsDirective start.directive) where
  abbrev pub answer : Verdict
  answer = reading_on z words 0 base start None rows

  abbrev here : Reader
  here = record { size = z; words = words; row = 0; cost = base; notation = start }

  told : Tells here rows answer
  told = let none : base + 0 ≡ base = omega arith in rw none at (Told-tells rows here None set tt)

  moved : {a row : ℕ} {cause : TapeCause} → row ≡ 0 + a → Breaks z words start rows a cause
      → Breaks z words start rows row cause
  moved {a} {row} {cause} e b = let q : a ≡ row = omega (arith, e) in subst (λ x. Breaks z words start rows x cause) q b

  -- a fault that the reader finds is the fault
  pub faulty_is : {row : ℕ} {cause : TapeCause} → answer ≡ Faulty row cause → IsFault z words start rows row cause
  faulty_is {row} {cause} e =
      let t : TellsFault here rows row cause = subst (λ v. Tells here rows v) e told in
      record {
        is = moved t.row_is t.breaks;
        least = λ r other b.
            let f = broken_found base set b in
            let h = row_of (sym f.is ∙ e) in
            rw (sym h.0, sym h.1) f.least;
      }

  -- if the reader reaches an entry, no rule is broken
  pub arrived_well : {e : TapeEntry} → answer ≡ Arrived e → WellFormed z words start rows
  arrived_well h row cause b = let f = broken_found base set b in not_both (sym f.is ∙ h)

  -- and the entry is that of the items
  pub arrived_comes : {e : TapeEntry} → answer ≡ Arrived e → RowsReachEntry words start base rows e
  arrived_comes {e} h =
      let t : TellsEntry here rows e = subst (λ v. Tells here rows v) h told in
      let q : t.read ≡ e.rows = omega (arith, t.rows_are) in
      rw (← q) t.comes

  found_by : (v : Verdict) → answer ≡ v → {row : ℕ} {cause : TapeCause} → IsFault z words start rows row cause
      → v ≡ Faulty row cause
  found_by (Faulty r c) e {row} {cause} h =
      let o = faulty_is e in
      let s = sorted (o.least row cause h.is) (h.least r c o.is) in
      rw (s.0, s.1) refl
  found_by (Arrived a) e {row} {cause} h = absurd (arrived_well e row cause h.is)

  -- the fault is what the reader finds
  pub fault_found : (row : ℕ) (cause : TapeCause) → IsFault z words start rows row cause → answer ≡ Faulty row cause
  fault_found row cause h = found_by answer refl h

  kept : {v w : Verdict} {n d : ℕ} {S : Type 0} → WellFormed z words start rows → answer ≡ v → Goes v w n d S
      → answer ≡ w
  kept well e (inl h) = e ∙ h.0
  kept well e (inr f) = absurd (well f.at f.cause (faulty_is (e ∙ f.is)).is)

  -- if no rule is broken the reader reaches the entry of the items
  pub comes_arrived : (e : TapeEntry) → WellFormed z words start rows → RowsReachEntry words start base rows e
      → answer ≡ Arrived e
  comes_arrived e well c =
      let w = c.last in
      let b = w.begun in
      let p : Reader = behind_all here c.before in
      let q : Reader = inside p (Some b) in
      let notation = p.notation in
      let is_entry = rw c.notation_is at c.is_entry in
      let entry = entry_by words q.row q.cost notation (as_part b) w.end e.rest (address notation.directive) in
      let h : answer ≡ Arrived entry = kept well (ap (λ x. reads here None x) c.rows_are)
      (Goes-entry c.before w here e.rest set c.are_read c.is_written is_entry) in
      let n : e.notation ≡ notation = c.notation_is in
      let l = length-append (begun_rows b) (w.end ∷ []) in
      let p1 : entry.at ≡ e.at = ap (λ (x : NotationState). address x.directive) (sym n) ∙ sym c.at_is in
      let p2 : entry.word ≡ e.word = ap (λ (x : NotationState). item_word words x (item_of b w.end)) (sym n)
      ∙ sym c.word_is in
      let k : cost_of e.notation w ≡ cost_of notation w = ap (λ (x : NotationState). cost_of x w) n in
      let k' : end_cost (row_kind w.end) notation ≡ 13 = entry_ends (row_kind w.end) notation is_entry in
      let p3 : entry.cost ≡ e.cost = omega (arith, c.cost_is, k, k') in
      let p4 : entry.rows ≡ e.rows = omega (arith, c.read_is, l) in
      let p5 : entry.notation ≡ e.notation = sym n in
      let p6 : entry.last ≡ e.last = sym c.last_is in
      search rules

  abbrev Either : Type 0
  Either =
      (WellFormed z words start rows × ((e : TapeEntry) × RowsReachEntry words start base rows e))
      ⊎ ((row : ℕ) × (cause : TapeCause) × IsFault z words start rows row cause)

  by_answer : (v : Verdict) → answer ≡ v → Either
  by_answer (Faulty row cause) h = inr (row, cause, faulty_is h)
  by_answer (Arrived e) h = inl (arrived_well h, (e, arrived_comes h))

  is_rules : ReadingIsRules z words start base rows
  is_rules = record {
    faulty = λ row cause h. faulty_is h;
    found = fault_found;
    well = λ e h. arrived_well h;
    comes = λ e h. arrived_comes h;
    arrived = comes_arrived;
    either = by_answer answer refl;
  }

-- the law, both ways
pub reading_is_rules : ReadingAlwaysIsRules
reading_is_rules z words start base rows set = is_rules z words start base rows set
