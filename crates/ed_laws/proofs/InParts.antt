-- What `parts` reports first: the entry of a well-formed tape, or the fault of another one.
use Rattle.ed_laws.proofs.Kit.{Settings, TapeCause, IsDirective, Arrived, Faulty, silent_outcome, StartsWith, ap}
use Rattle.ed_laws.proofs.Kit.{append-nil, append_assoc, arith, codes, length, List, suc, sym, ℕ, ◌++◌, ◌+◌, ◌-◌, ◌<◌}
use Rattle.ed_laws.proofs.Kit.{◌∙◌, ◌≡◌, ◌≤◌, State, AllWent, TapeEntry, first_state, Outcome, refusal, zero, opening}
use Rattle.ed_laws.proofs.Kit.{reading_is_rules, cut, entry_report, faulty, finished, first_part, HasFault, LeadsTo}
use Rattle.ed_laws.proofs.Kit.{PartsReport, ReportsParts, TapePart, IsInParts, report_outcome, limit_state}
use Rattle.std.proofs.Common.{rules}
use Rattle.std.proofs.lemmas.Fmt.{decimal_digit}
use Rattle.ed_notation.specs.Reading.{ReadingIsRules}
use Rattle.ed_report.specs.Entries.{entry_line}
use Rattle.ed_report.specs.Notes.{rule_line}
use Rattle.ed_laws.specs.TapeEntries.{PartsFromEntry}
use Rattle.ed_laws.proofs.CutRuns.{limit_orders}

-- ---- the first part has one entry or one fault

same_entry : {e f : TapeEntry} → Arrived e ≡ Arrived f → e ≡ f
same_entry is = cc

same_fault : {r q : ℕ} {a b : TapeCause} → Faulty r a ≡ Faulty q b → (r ≡ q) × (a ≡ b)
same_fault is = (cc, cc)

module _ (s : State) where
  opens : IsDirective 20568
  opens = omega arith

  by_reading : ReadingIsRules s.size s.store.words (opening s.store.words) 9 s.tape
  by_reading = reading_is_rules s.size s.store.words (opening s.store.words) 9 s.tape opens

  entry_once : (e f : TapeEntry) → LeadsTo (first_part s) e → LeadsTo (first_part s) f → e ≡ f
  entry_once e f a b = same_entry (sym (by_reading.arrived e a.well a.comes) ∙ by_reading.arrived f b.well b.comes)

  fault_once : (row other : ℕ) (cause rule : TapeCause) → HasFault (first_part s) row cause
      → HasFault (first_part s) other rule
      → (row ≡ other) × (cause ≡ rule)
  fault_once row other cause rule a b = same_fault (sym (by_reading.found row cause a) ∙ by_reading.found other rule b)

  not_both : (row : ℕ) (cause : TapeCause) (e : TapeEntry) → HasFault (first_part s) row cause
      → LeadsTo (first_part s) e → ⊥
  not_both row cause e fault leads = leads.well row cause fault.is

-- ---- what is reported

module _ (s : Settings) (rows : List ℕ) where
  abbrev first : State
  first = first_state s.size rows

  abbrev part : TapePart
  part = first_part first

  abbrev count : ℕ
  count = length first.tape

  -- ---- a well-formed tape

  module _ (e : TapeEntry) (leads : LeadsTo part e) where
    same_cost : (f : TapeEntry) → LeadsTo part f → f.cost ≡ e.cost
    same_cost f other = ap (λ (x : TapeEntry). x.cost) (entry_once first f e other leads)

    -- the line of its entry is that of `check-tape`
    line_is : (f : TapeEntry) → LeadsTo part f → entry_report count part f ≡ entry_line e.at e.cost e.rows
    line_is f other =
        let orders : 0 + e.cost ≡ e.cost = omega arith in
        let read : count - count + e.rows ≡ e.rows = omega arith in
        ap (entry_report count part) (entry_once first f e other leads)
        ∙ (λ i. entry_line e.at (orders i) (read i))

    begins : (n : ℕ) (t : PartsReport) → ReportsParts s.limit count n part t → e.cost ≤ s.limit
        → StartsWith t.text (entry_line e.at e.cost e.rows)
    begins zero t (faulty row cause fault is) fits = absurd (not_both first row cause e fault leads)
    begins zero t (cut f other low is) fits = absurd (omega (arith, low, same_cost f other, fits))
    begins zero t (finished f k ending other within ends is) fits = search (rules, line_is, append-nil)
    begins (suc n) t (b, rest, told, is) fits = search (rules, append_assoc, line_is)

    -- with a limit below the cost
    short : (n : ℕ) (t : PartsReport) → ReportsParts s.limit count n part t → AllWent e.cost first → s.limit < e.cost
        → report_outcome t ≡ silent_outcome (codes "limit") (limit_state s rows).counter s.limit 4
    short zero t (faulty row cause fault is) went below = absurd (not_both first row cause e fault leads)
    short zero t (cut f other low is) went below = search (rules, limit_orders)
    short zero t (finished f k ending other within ends is) went below =
        absurd (omega (arith, within, same_cost f other, below))
    short (suc n) t (b, rest, told, is) went below = absurd (omega (arith, b.within, same_cost b.entry b.leads, below))

    pub parts_from_entry : AllWent e.cost first → (o : Outcome) → IsInParts s rows o → PartsFromEntry s rows e o
    parts_from_entry went o p =
        let n = p.tells.returns in
        let out : p.told.text ≡ o.out = ap (λ (x : Outcome). x.out) p.outcome in
        record {
          begins = λ fits.
              let start = begins n p.told p.tells.told fits in (start.0, sym out ∙ start.1);
          short = λ below. sym p.outcome ∙ short n p.told p.tells.told went below;
        }

  -- ---- a faulty tape

  module _ (row : ℕ) (cause : TapeCause) (fault : HasFault part row cause) where
    refused : (n : ℕ) (t : PartsReport) → ReportsParts s.limit count n part t
        → report_outcome t ≡ refusal (codes "part 1, " ++ rule_line row cause)
    refused zero t (faulty other rule found is) =
        let same = fault_once first other row rule cause found fault in
        let none : count - count + row ≡ row = omega arith in
        search (rules, decimal_digit)
    refused zero t (cut f other low is) = absurd (not_both first row cause f fault other)
    refused zero t (finished f k ending other within ends is) = absurd (not_both first row cause f fault other)
    refused (suc n) t (b, rest, told, is) = absurd (not_both first row cause b.entry fault b.leads)

    pub parts_refuse : (o : Outcome) → IsInParts s rows o → o ≡ refusal (codes "part 1, " ++ rule_line row cause)
    parts_refuse o p = sym p.outcome ∙ refused p.tells.returns p.told p.tells.told
