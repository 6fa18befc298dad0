-- What a turn does, for a run of the machine that obeys as many orders.
use Rattle.ed_checker.proofs.Kit.{nat_le, Kind, Turn, [], ap, arith, Bool, false, inl, inr, length, Option, refl, rules}
use Rattle.ed_checker.proofs.Kit.{Some, subst, sym, true, true≢false, ℕ, ◌%◌, ◌++◌, ◌+◌, ◌-◌, ◌<◌, ◌∙◌, ◌∷◌, ◌≡◌, ◌≤◌}
use Rattle.ed_checker.proofs.Kit.{◌⊎◌, locations, function_of, IsStore, kind_of_function, next_word, obey_word, Obeyed}
use Rattle.ed_checker.proofs.Kit.{step, State, codes_of, is_obeyed, progress, Progress, stops_of, if◌then◌else◌, Agree}
use Rattle.ed_checker.proofs.Kit.{CheckerStands, guest, IsAllowed, turn_orders, ChecksOne}
use Rattle.ed_run.proofs.Kit.{Sheet, first_once, end_by, EndsAfter, IsRun}
use Rattle.ed_machine.specs.declared.ending.Ending.{Ending}
use Rattle.ed_machine.specs.declared.ending.Ending.TheVariants.{Limit, NoOrder as EndsNoOrder, NoTape as EndsNoTape}
use Rattle.ed_machine.proofs.Steps.{one_code}
use Rattle.ed_run.proofs.Places.{at_limit, at_block}
use Rattle.ed_checker.specs.Checker.{is_Z}
use Rattle.ed_checker.specs.Contract.{answer_by}
use Rattle.ed_checker.specs.declared.checking.Checking.TheVariants.{Went as HasGone, Stopped as HasStopped}
use Rattle.ed_checker.specs.declared.checking.Checking.TheVariants.{Blocked as IsBlocked}
use Rattle.ed_checker.proofs.Turns.{Reached, Turned, step-turn, turn_reaches}

few_stops : (t : Turn) → stops_of t ≤ 1
few_stops t = search rules

-- a state in which no order can be obeyed
same_state : (k : Option Kind) (w : ℕ) (s : State) → is_obeyed (obey_word k w s).turn ≡ false
    → ((obey_word k w s).state ≡ s) × (codes_of (obey_word k w s).turn ≡ [])
same_state k w s h = search rules

-- the answer by the kind of the order
answer_of : (k : Option Kind) (w n : ℕ) (s : State) → is_obeyed (obey_word k w s).turn ≡ true
    → answer_by (obey_word k w s).turn n ≡ (if is_Z k then HasStopped n else HasGone n)
answer_of k w n s h = search rules

-- the answer if the order is blocked
blocked_answer : (t : Turn) (n : ℕ) → is_obeyed t ≡ false → answer_by t n ≡ IsBlocked n
blocked_answer t n h = search rules

-- and how a run ends there
blocked_end : (t : Turn) (full : Bool) → is_obeyed t ≡ false
    → (e : Ending) × (end_by t full ≡ Some e) × ((e ≡ EndsNoOrder) ⊎ (e ≡ EndsNoTape))
blocked_end t full h = search rules

-- a run of as many orders as a turn takes, from a state in which the routine is at the start of one and its guest's
-- order is allowed
pub record IsTurn (base count : ℕ) (s t : State) (sheet full : Sheet) (ending : Ending) : Type 0 where
  pub even : base % 2 ≡ 0
  pub store : IsStore s.store
  pub room : base + 66 ≤ locations s.size
  pub stands : CheckerStands base s
  pub allowed : IsAllowed base (guest base s)
  pub space : 2 ≤ sheet.room - length sheet.codes
  pub count_is : count ≡ turn_orders (guest base s)
  pub run : IsRun count 1 s sheet ending t full

module _ {base count : ℕ} {s t : State} {sheet full : Sheet} {ending : Ending}
    (o : IsTurn base count s t sheet full ending) where
  abbrev g : State
  g = guest base s

  runs : IsRun (turn_orders g) 1 s sheet ending t full
  runs = subst (λ k. IsRun k 1 s sheet ending t full) o.count_is o.run

  -- the number of codes that the paper takes
  abbrev space_left : ℕ
  space_left = sheet.room - length sheet.codes

  at_g : step g ≡ obey_word (kind_of_function (function_of (next_word g))) (next_word g) g
  unfolding step
  at_g = refl

  -- the run ends at its limit
  abbrev pub Done : Type 0
  Done = (ending ≡ Limit) × ChecksOne base s t sheet full
      (if is_Z (kind_of_function (function_of (next_word g))) then HasStopped (turn_orders g)
      else HasGone (turn_orders g))

  -- or before the blocked order
  abbrev pub Blocks : Type 0
  Blocks = ((ending ≡ EndsNoOrder) ⊎ (ending ≡ EndsNoTape)) × (17 ≤ turn_orders g)
      × ChecksOne base s t sheet full (IsBlocked (turn_orders g - 17))

  done : is_obeyed (step g).turn ≡ true → Done
  done h =
      let r : Turned base s = step-turn base o.even s o.store o.room o.stands o.allowed h in
      let cs = function_of (next_word g) ∷ codes_of (step g).turn in
      let few = one_code (step g).turn in
      let space = o.space in
      let printed : length (progress r.count s).codes ≡ length cs = ap (λ (p : Progress). length p.codes) r.ran.is in
      let stopped : (progress r.count s).stops ≡ stops_of (step g).turn = ap (λ (p : Progress). p.stops) r.ran.is in
      let e = subst (λ limit. EndsAfter limit 1 space_left s r.count Limit) r.exact
      (at_limit r.count 1 {room = space_left} {s = s}
      (record { obeyed = r.ran.free; printed = omega (arith, few, printed) })
      (omega (arith, few_stops (step g).turn, stopped))) in
      let u = first_once runs.ends e in
      let there : (progress runs.orders s) ≡ record { state = r.after; codes = cs; stops = stops_of (step g).turn } =
      ap (λ i. progress i s) u.0 ∙ r.ran.is in
      let state : t ≡ r.after = runs.state_is ∙ ap (λ (p : Progress). p.state) there in
      let answer = answer_of (kind_of_function (function_of (next_word g))) (next_word g) (turn_orders g) g
      (ap (λ (y : Obeyed). is_obeyed y.turn) (sym at_g) ∙ h) in (
        u.1,
        record {
          orders = r.count;
          exact = rw h r.exact;
          most = r.most;
          answer_is = sym ((λ i. answer_by (at_g i).turn (r.exact i)) ∙ answer);
          state_is = state ∙ sym (ap (λ (p : Progress). p.state) r.ran.is);
          free = r.ran.free;
          paper_is = runs.sheet_is
              ∙ ap (λ (p : Progress). record { codes = sheet.codes ++ p.codes; room = sheet.room }) there;
          guest_is = subst (λ x. Agree base (guest base x) (step g).state) (sym state) r.agree;
          stands = λ i. subst (CheckerStands base) (sym state) r.stands;
          blocked = λ i. absurd (true≢false (sym h ∙ i));
        },
      )

  blocks : is_obeyed (step g).turn ≡ false → Blocks
  blocks h =
      let r : Reached base s = turn_reaches base o.even s o.store o.room o.stands o.allowed
      (λ went. true≢false (ap is_obeyed (sym went) ∙ h)) in
      let n = function_of (next_word g) in
      let cs = n ∷ [] in
      let space = o.space in
      let count : r.count ≡ turn_orders g - 17 = omega (arith, r.exact) in
      let below : r.count < turn_orders g = omega (arith, r.exact) in
      let b = blocked_end (step r.after).turn (nat_le space_left (length cs)) (ap is_obeyed r.turn ∙ h) in
      let printed : length (progress r.count s).codes ≡ length cs = ap (λ (p : Progress). length p.codes) r.ran.is in
      let stopped : (progress r.count s).stops ≡ 0 = ap (λ (p : Progress). p.stops) r.ran.is in
      let there_too : end_by (step (progress r.count s).state).turn
      (nat_le space_left (length (progress r.count s).codes))
      ≡ Some b.0 =
      ap (λ (p : Progress). end_by (step p.state).turn (nat_le space_left (length p.codes))) r.ran.is ∙ b.1 in
      let e = at_block (turn_orders g) 1 {room = space_left} {k = r.count} {s = s}
      (record { obeyed = r.ran.free; printed = omega (arith, printed) }) (omega (arith, stopped)) below there_too in
      let u = first_once runs.ends e in
      let there : (progress runs.orders s) ≡ record { state = r.after; codes = cs; stops = 0 } =
      ap (λ i. progress i s) u.0
      ∙ r.ran.is in
      let state : t ≡ r.after = runs.state_is ∙ ap (λ (p : Progress). p.state) there in
      let paper : full ≡ record { codes = sheet.codes ++ cs; room = sheet.room } = runs.sheet_is
      ∙ ap (λ (p : Progress). record { codes = sheet.codes ++ p.codes; room = sheet.room }) there in
      let same = same_state (kind_of_function n) (next_word g) g
      (ap (λ (y : Obeyed). is_obeyed y.turn) (sym at_g) ∙ h) in
      let guest_same : g ≡ (step g).state = sym (ap (λ (y : Obeyed). y.state) at_g ∙ same.0) in
      let no_codes : codes_of (step g).turn ≡ [] = ap (λ (y : Obeyed). codes_of y.turn) at_g ∙ same.1 in
      let by_end : ((b.0 ≡ EndsNoOrder) ⊎ (b.0 ≡ EndsNoTape)) → (ending ≡ EndsNoOrder) ⊎ (ending ≡ EndsNoTape) =
      (λ x. elim x [ inl a ↦ inl (u.1 ∙ a) | inr a ↦ inr (u.1 ∙ a) ]) in (
        by_end b.2,
        omega (arith, r.exact),
        record {
          orders = r.count;
          exact = rw h count;
          most = omega (arith, r.most);
          answer_is = sym (blocked_answer (step g).turn r.count h ∙ ap IsBlocked count);
          state_is = state ∙ sym (ap (λ (p : Progress). p.state) r.ran.is);
          free = r.ran.free;
          paper_is = paper ∙ ap (λ xs. record { codes = sheet.codes ++ (n ∷ xs); room = sheet.room }) (sym no_codes);
          guest_is = subst (λ x. Agree base (guest base x) (step g).state) (sym state)
              (subst (Agree base (guest base r.after)) guest_same r.agree);
          stands = λ i. absurd (true≢false (sym i ∙ h));
          blocked = λ i. (
            ap (λ (x : State). (step x).turn) state ∙ r.turn,
            ap (λ (x : State). x.counter) state ∙ r.counter,
          );
        },
      )

  by_test : (b : Bool) → is_obeyed (step g).turn ≡ b → Done ⊎ Blocks
  by_test true h = inl (done h)
  by_test false h = inr (blocks h)

  pub answered : Done ⊎ Blocks
  answered = by_test (is_obeyed (step g).turn) refl

  no_end : (ending ≡ Limit) → ((ending ≡ EndsNoOrder) ⊎ (ending ≡ EndsNoTape)) → ⊥
  no_end l h = search rules

  pub when_blocked : ((ending ≡ EndsNoOrder) ⊎ (ending ≡ EndsNoTape))
      → (17 ≤ count) × ChecksOne base s t sheet full (IsBlocked (count - 17))
  when_blocked e =
      subst (λ k. (17 ≤ k) × ChecksOne base s t sheet full (IsBlocked (k - 17))) (sym o.count_is)
      (elim answered [ inl d ↦ absurd (no_end d.0 e) | inr b ↦ (b.1, b.2) ])

  not_blocked : (ending ≡ EndsNoOrder → ⊥) → (ending ≡ EndsNoTape → ⊥)
      → ((ending ≡ EndsNoOrder) ⊎ (ending ≡ EndsNoTape)) → ⊥
  not_blocked a b h = search rules

  pub when_done : {b : Bool} → (ending ≡ EndsNoOrder → ⊥) → (ending ≡ EndsNoTape → ⊥)
      → is_Z (kind_of_function (function_of (next_word g))) ≡ b
      → ChecksOne base s t sheet full (if b then HasStopped count else HasGone count)
  when_done {b} a c e =
      subst (λ k. ChecksOne base s t sheet full (if b then HasStopped k else HasGone k)) (sym o.count_is)
      (elim answered [
        | inl d ↦ subst (λ b. ChecksOne base s t sheet full
            (if b then HasStopped (turn_orders g) else HasGone (turn_orders g))) e d.1
        | inr x ↦ absurd (not_blocked a c x.0)
      ])
