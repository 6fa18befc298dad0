-- There is exactly one report on a tape in parts.
use Rattle.ed_interlude.proofs.Kit.{Ending, address, [], ap, arith, inl, inr, length, refl, subst, suc, sym}
use Rattle.ed_interlude.proofs.Kit.{zero, ℕ, ◌++◌, ◌+◌, ◌-◌, ◌<◌, ◌∙◌, ◌≡◌, ◌≤◌, ◌⊎◌, cases_lt, state_after, TapeEntry}
use Rattle.ed_interlude.proofs.Kit.{returned_line, Concludes, cut, entry_done, entry_report, faulty, finished}
use Rattle.ed_interlude.proofs.Kit.{Finishes, first_part, GoesBack, LeadsTo, part_after, part_entry_state}
use Rattle.ed_interlude.proofs.Kit.{part_report, PartsReport, read_before, ReportsParts, ReturnsToLoader, TapePart}
use Rattle.ed_interlude.proofs.Kit.{directive, Ended, Faulty}
use Rattle.ed_interlude.specs.Laws.{EachTapeHasOneReport}
use Rattle.ed_interlude.proofs.Parting.{Opens, entry_once, fault_once, fault_or_entry, first_opens, home_opens}
use Rattle.ed_interlude.proofs.Parting.{not_both}
use Rattle.ed_interlude.proofs.Programs.{comes_to, end_once, home_once, home_or_end}
use Rattle.ed_interlude.proofs.Rows.{some_cost}

-- the part after a return opens with a directive
pub behind_opens : {limit : ℕ} (p : TapePart) (b : GoesBack limit p) → Opens (part_after p b)
behind_opens p b = home_opens (part_after p b) b.comes.home

module _ (limit rows : ℕ) where
  -- ---- there is one

  -- a part that is entered is the last one, or returns
  pub from_entry : (p : TapePart) (e : TapeEntry) → LeadsTo p e → entry_done p e ≤ limit
      → ((k : ℕ) × (ending : Ending) × Finishes (limit - entry_done p e) k (part_entry_state p e) ending)
      ⊎ ((k : ℕ) × ReturnsToLoader (limit - entry_done p e) k (part_entry_state p e))
  from_entry p e leads within =
      let c = comes_to (limit - entry_done p e) (part_entry_state p e) in
      elim c.1 [ inl home ↦ inr (c.0, home) | inr end ↦ inl (c.0, end.0, end.1) ]

  ends_or_back : (p : TapePart) → Opens p → ((t : PartsReport) × Concludes limit rows p t) ⊎ GoesBack limit p
  ends_or_back p opens =
      elim (fault_or_entry p opens) [
        | inl f ↦ inl (_, faulty f.0 f.1 f.2 refl)
        | inr l ↦ elim (cases_lt limit (entry_done p l.0)) [
          | inl short ↦ inl (_, cut l.0 l.1 short refl)
          | inr within ↦ elim (from_entry p l.0 l.1 within) [
            | inl f ↦ inl (_, finished l.0 f.0 f.1 l.1 within f.2 refl)
            | inr h ↦ inr (record { entry = l.0; leads = l.1; within = within; orders = h.0; comes = h.1 })
          ]
        ]
      ]

  by_fuel : (fuel : ℕ) (p : TapePart) → Opens p → limit < p.done + fuel
      → (n : ℕ) × (t : PartsReport) × ReportsParts limit rows n p t
  by_fuel zero p opens low =
      elim (ends_or_back p opens) [
        | inl c ↦ (0, c.0, c.1)
        | inr b ↦ absurd (omega (arith, b.within))
      ]
  by_fuel (suc fuel) p opens low =
      elim (ends_or_back p opens) [
        | inl c ↦ (0, c.0, c.1)
        | inr b ↦
            let rest = by_fuel fuel (part_after p b) (behind_opens p b) (omega (arith, some_cost p b.entry b.leads)) in
            (suc rest.0, _, (b, rest.1, rest.2, refl))
      ]

  pub some_told : (p : TapePart) → Opens p → (n : ℕ) × (t : PartsReport) × ReportsParts limit rows n p t
  some_told p opens = by_fuel (suc limit) p opens (omega arith)

  -- ---- and only one

  concludes_once : (p : TapePart) (t u : PartsReport) → Opens p → Concludes limit rows p t
      → Concludes limit rows p u → t ≡ u
  concludes_once p t u opens (faulty row cause a is) (faulty other rule b also) =
      let same = fault_once p row other cause rule opens a b in
      is ∙ (λ i. record {
        text = [];
        end = Faulty p.number (read_before rows p + same.0 i) (same.1 i);
        last = p.state;
      }) ∙ sym also
  concludes_once p t u opens (faulty row cause a is) (cut f b low also) = absurd (not_both p row cause f a b)
  concludes_once p t u opens (faulty row cause a is) (finished f k c b low g also) = absurd (not_both p row cause f a b)
  concludes_once p t u opens (cut e a low is) (faulty row cause b also) = absurd (not_both p row cause e b a)
  concludes_once p t u opens (cut e a low is) (cut f b high also) = is ∙ sym also
  concludes_once p t u opens (cut e a low is) (finished f k c b high g also) =
      let same : e.cost ≡ f.cost = ap (λ (x : TapeEntry). x.cost) (entry_once p e f opens a b) in absurd (omega arith)
  concludes_once p t u opens (finished e j d a low f is) (faulty row cause b also) = absurd (not_both p row cause e b a)
  concludes_once p t u opens (finished e j d a low f is) (cut g b high also) =
      let same : e.cost ≡ g.cost = ap (λ (x : TapeEntry). x.cost) (entry_once p e g opens a b) in absurd (omega arith)
  concludes_once p t u opens (finished e j d a low f is) (finished g k c b high h also) =
      let same = entry_once p e g opens a b in
      let there = subst (λ (x : TapeEntry). Finishes (limit - entry_done p x) j (part_entry_state p x) d) same f in
      let one = end_once (limit - entry_done p g) (part_entry_state p g) j k d c there h in
      is
      ∙ (λ i. record {
        text = entry_report rows p (same i);
        end = Ended (one.1 i);
        last = state_after (one.0 i) (part_entry_state p (same i));
      })
      ∙ sym also

  -- a part that returns is not the last one
  ends_no_back : (p : TapePart) (t : PartsReport) → Opens p → Concludes limit rows p t → GoesBack limit p → ⊥
  ends_no_back p t opens (faulty row cause a is) b = not_both p row cause b.entry a b.leads
  ends_no_back p t opens (cut e a low is) b =
      let same : e.cost ≡ b.entry.cost = ap (λ (x : TapeEntry). x.cost) (entry_once p e b.entry opens a b.leads) in
      absurd (omega (arith, b.within))
  ends_no_back p t opens (finished e j d a low f is) b =
      let same = entry_once p e b.entry opens a b.leads in
      let there = subst (λ (x : TapeEntry). Finishes (limit - entry_done p x) j (part_entry_state p x) d) same f in
      home_or_end (limit - entry_done p b.entry) (part_entry_state p b.entry) b.orders j d b.comes there

  -- it returns after one number of orders
  pub record BackOnce (p : TapePart) (b c : GoesBack limit p) : Type 0 where
    pub part_is : part_after p b ≡ part_after p c
    pub lines_are : part_report rows p b ≡ part_report rows p c

  back_once : (p : TapePart) (b c : GoesBack limit p) → Opens p → BackOnce p b c
  back_once p b c opens =
      let same = entry_once p b.entry c.entry opens b.leads c.leads in
      let there =
      subst (λ (x : TapeEntry). ReturnsToLoader (limit - entry_done p x) b.orders
      (part_entry_state p x)) same b.comes in
      let orders = home_once _ (part_entry_state p c.entry) b.orders c.orders there c.comes in
      let part : part_after p b ≡ part_after p c =
      λ i. record {
        number = p.number + 1;
        done = entry_done p (same i) + orders i;
        state = state_after (orders i) (part_entry_state p (same i));
      } in
      record {
        part_is = part;
        lines_are = λ i. entry_report rows p (same i)
            ++ returned_line (address (directive (part i).state)) (part i).done;
      }

  told_once : (n m : ℕ) (p : TapePart) {t u : PartsReport} → Opens p → ReportsParts limit rows n p t
      → ReportsParts limit rows m p u
      → t ≡ u
  told_once zero zero p {t} {u} opens a b = concludes_once p t u opens a b
  told_once zero (suc m) p {t} opens a b = absurd (ends_no_back p t opens a b.0)
  told_once (suc n) zero p {u} opens a b = absurd (ends_no_back p u opens b a.0)
  told_once (suc n) (suc m) p opens a b =
      let one = back_once p a.0 b.0 opens in
      let there = subst (λ (q : TapePart). ReportsParts limit rows n q a.1) one.part_is a.2 in
      let rest = told_once n m (part_after p b.0) (behind_opens p b.0) there b.2 in
      a.3 ∙ (λ i. record (rest i) { text = one.lines_are i ++ (rest i).text }) ∙ sym b.3

pub each_told_once : EachTapeHasOneReport
each_told_once limit s =
    let one = some_told limit (length s.tape) (first_part s) (first_opens s) in
    record {
      some = (one.1, record { returns = one.0; told = one.2 });
      once = λ t u a b.
          told_once limit (length s.tape) a.returns b.returns (first_part s) (first_opens s) a.told b.told;
    }
