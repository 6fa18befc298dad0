-- `parts` with a greater limit: the same, if it ended before its limit, else it goes on.
use Rattle.ed_laws.proofs.Kit.{Ending, Limit, Settings, first_directive, IsDirective, StartsWith, with_limit, [], ap}
use Rattle.ed_laws.proofs.Kit.{append-nil, append_assoc, arith, inl, inr, length, List, None, refl, rules, Some, suc}
use Rattle.ed_laws.proofs.Kit.{sym, ℕ, ◌++◌, ◌-◌, ◌<◌, ◌∙◌, ◌≡◌, ◌≢◌, ◌≤◌, ◌⊎◌, Text, State, state_after, TapeEntry}
use Rattle.ed_laws.proofs.Kit.{first_state, Outcome, return_report, zero, cases_lt, cut, entry_report, faulty, finished}
use Rattle.ed_laws.proofs.Kit.{first_part, LeadsTo, PartsReport, ReportsParts, TapePart, end_status, IsInParts}
use Rattle.ed_laws.proofs.Kit.{report_outcome}
use Rattle.ed_interlude.specs.Parts.{ReturnsToLoader, Finishes, GoesBack, RunsOn, entry_done, notation_of, part_after}
use Rattle.ed_interlude.specs.Parts.{part_report, part_entry_state, program_end}
use Rattle.ed_interlude.specs.declared.tape.PartsEnd.TheVariants.{Ended}
use Rattle.ed_interlude.proofs.Tales.{behind_opens, each_told_once, from_entry, some_told}
use Rattle.ed_laws.specs.MoreResumes.{PartsKeepLimits}

-- ---- a program that may obey more orders

module _ (low high : ℕ) (s : State) (fits : low ≤ high) where
  -- at its limit it has ended
  not_at : (j : ℕ) → program_end low j s ≡ None → j ≢ low
  not_at j = search rules

  within : (k : ℕ) → RunsOn low k s → k ≤ low
  within k runs = elim (cases_lt low k) [ inl less ↦ absurd (not_at low (runs low less).no_end refl) | inr few ↦ few ]

  none_yet : (j : ℕ) → j < low → program_end low j s ≡ None → program_end high j s ≡ None
  none_yet j less = search rules

  runs_too : (k : ℕ) → RunsOn low k s → RunsOn high k s
  runs_too k runs j less = search (rules, less, none_yet, within)

  home_too : (k : ℕ) → ReturnsToLoader low k s → ReturnsToLoader high k s
  home_too k c = record { runs = runs_too k c.runs; stops = c.stops; home = c.home }

  ends_too : (k : ℕ) (ending : Ending) → k ≤ low → ending ≢ Limit → program_end low k s ≡ Some ending
      → program_end high k s ≡ Some ending
  ends_too k ending few other = search rules

  finishes_too : (k : ℕ) (ending : Ending) → ending ≢ Limit → Finishes low k s ending → Finishes high k s ending
  finishes_too k ending other f = search (rules, runs_too, ends_too, within)

-- ---- the report with a greater limit

-- it begins as the other does, and is the same if that didn't end at its limit
record Keeps (t u : PartsReport) : Type 0 where
  pub begins : StartsWith u.text t.text
  pub same : end_status t.end ≢ 4 → u ≡ t

record Longer (high rows : ℕ) (p : TapePart) (t : PartsReport) : Type 0 where
  pub returns : ℕ
  pub report : PartsReport
  pub told : ReportsParts high rows returns p report
  pub keeps : Keeps t report

limit_or : (e : Ending) → (e ≡ Limit) ⊎ (e ≢ Limit)
limit_or e = search rules

itself : (t : PartsReport) → Keeps t t
itself t = record { begins = ([], sym (append-nil t.text)); same = λ other. refl }

module _ (low high rows : ℕ) (fits : low ≤ high) where
  -- the part is cut off
  from_cut : (p : TapePart) (t : PartsReport) → IsDirective (notation_of p).directive → t.text ≡ []
      → end_status t.end ≡ 4 → Longer high rows p t
  from_cut p t opens none cut_off =
      let more = some_told high rows p opens in
      record {
        returns = more.0;
        report = more.1;
        told = more.2;
        keeps = record {
          begins = (more.1.text, ap (λ (x : Text). x ++ more.1.text) (sym none));
          same = λ other. absurd (other cut_off);
        };
      }

  -- its program is cut off
  from_limit : (p : TapePart) (t : PartsReport) (e : TapeEntry) → LeadsTo p e → entry_done p e ≤ high
      → t.text ≡ entry_report rows p e → end_status t.end ≡ 4 → Longer high rows p t
  from_limit p t e leads in_time text cut_off = by_program (from_entry high rows p e leads in_time)
    where
      by_program : ((k : ℕ) × (ending : Ending) × Finishes (high - entry_done p e) k (part_entry_state p e) ending)
          ⊎ ((k : ℕ) × ReturnsToLoader (high - entry_done p e) k (part_entry_state p e))
          → Longer high rows p t
      by_program (inl f) = record {
        returns = 0;
        report = record {
          text = entry_report rows p e;
          end = Ended f.1;
          last = state_after f.0 (part_entry_state p e);
        };
        told = finished e f.0 f.1 leads in_time f.2 refl;
        keeps = record {
          begins = ([], sym text ∙ sym (append-nil t.text));
          same = λ other. absurd (other cut_off);
        };
      }
      by_program (inr h) =
          let b : GoesBack high p = record {
            entry = e;
            leads = leads;
            within = in_time;
            orders = h.0;
            comes = h.1;
          } in
          let rest = some_told high rows (part_after p b) (behind_opens p b) in
          record {
            returns = suc rest.0;
            report = record rest.1 { text = part_report rows p b ++ rest.1.text };
            told = (b, rest.1, rest.2, refl);
            keeps = record {
              begins = (
                return_report p b ++ rest.1.text,
                append_assoc (entry_report rows p e) (return_report p b) rest.1.text
                    ∙ ap (λ (x : Text). x ++ (return_report p b ++ rest.1.text)) (sym text),
              );
              same = λ other. absurd (other cut_off);
            };
          }

  of_text : {t u : PartsReport} → t ≡ u → t.text ≡ u.text
  of_text is = ap (λ (r : PartsReport). r.text) is

  longer : (n : ℕ) (p : TapePart) (t : PartsReport) → IsDirective (notation_of p).directive
      → ReportsParts low rows n p t → Longer high rows p t
  longer zero p t opens (faulty row cause fault is) = record {
    returns = 0;
    report = t;
    told = faulty row cause fault is;
    keeps = itself t;
  }
  longer zero p t opens (cut e leads short is) = search (rules, from_cut)
  longer zero p t opens (finished e k ending leads in_time ends is) = elim (limit_or ending) [
    | inl at ↦
        from_limit p t e leads (omega (arith, in_time, fits)) (of_text is)
        (ap (λ (r : PartsReport). end_status r.end) is ∙ ap (λ (d : Ending). end_status (Ended d)) at)
    | inr other ↦ record {
      returns = 0;
      report = t;
      told = finished e k ending leads (omega (arith, in_time, fits))
          (finishes_too (low - entry_done p e) (high - entry_done p e) (part_entry_state p e) (omega (arith, fits)) k
          ending other ends) is;
      keeps = itself t;
    }
  ]
  longer (suc n) p t opens (b, rest, told, is) =
      let b_too : GoesBack high p = record {
        entry = b.entry;
        leads = b.leads;
        within = omega (arith, b.within, fits);
        orders = b.orders;
        comes = home_too (low - entry_done p b.entry) (high - entry_done p b.entry) (part_entry_state p b.entry)
            (omega (arith, fits)) b.orders b.comes;
      } in
      let more = longer n (part_after p b) rest (behind_opens p b) told in
      let lines = part_report rows p b in
      record {
        returns = suc more.returns;
        report = record more.report { text = lines ++ more.report.text };
        told = (b_too, more.report, more.told, refl);
        keeps = record {
          begins = (
            more.keeps.begins.0,
            ap (λ (x : Text). lines ++ x) more.keeps.begins.1
                ∙ sym (append_assoc lines rest.text more.keeps.begins.0)
                ∙ ap (λ (x : Text). x ++ more.keeps.begins.0) (sym (of_text is)),
          );
          same = λ other.
              let unlike : end_status rest.end ≢ 4 =
              λ h. other (ap (λ (r : PartsReport). end_status r.end) is ∙ h) in
              ap (λ (r : PartsReport). record r { text = lines ++ r.text }) (more.keeps.same unlike) ∙ sym is;
        };
      }

-- ---- the answers

module _ (codes : List ℕ) (s : Settings) (more : ℕ) (o other : Outcome) (fits : s.limit ≤ more)
    (a : IsInParts s codes o) (b : IsInParts (with_limit more s) codes other) where
  abbrev first : State
  first = first_state s.size codes

  from_a : Longer more (length first.tape) (first_part first) a.told
  from_a =
      longer s.limit more (length first.tape) fits a.tells.returns (first_part first) a.told
      first_directive a.tells.told

  -- the report with the greater limit
  is_b : b.told ≡ from_a.report
  is_b =
      (each_told_once more first).once b.told from_a.report b.tells
      (record { returns = from_a.returns; told = from_a.told })

  same : o.status ≢ 4 → other ≡ o
  same not = search (rules, end_status, report_outcome, is_b, from_a)

  begins : StartsWith other.out o.out
  begins = search (rules, from_a, of_text, is_b)

pub parts_keep_limits : (codes : List ℕ) → PartsKeepLimits codes
parts_keep_limits codes = record { same = same codes; begins = begins codes }
