-- The loading theorem without a call: from a started machine a well-formed tape leads to the state at the entry in as
-- many orders as it costs, each of which goes on and prints nothing.
use Rattle.ed_initial.proofs.Kit.{Went, ◌^◌, cases_lt, IsStore, Obeyed, step, State, progress, state_after, quiet_codes}
use Rattle.ed_initial.proofs.Kit.{opening, [], ap, arith, false, inl, inr, None, subst, suc, true, ℕ, ◌*◌, ◌+◌, ◌<◌}
use Rattle.ed_initial.proofs.Kit.{◌∙◌, ◌≡◌, ◌≤◌, ◌⊎◌, TapeEntry, over, IsDirective, Arrived, reading_on}
use Rattle.ed_initial.proofs.Kit.{reading_is_rules, at_entry, entry_words, IsStarted, ReachesEntry, enters, IsQuiet}
use Rattle.ed_initial.proofs.Loads.{Reaches, Rest, Reaches-prepend, Reaches-loads}
use Rattle.ed_initial.proofs.Opened.{frame, begins, state-opened, first_path, first_scratch, opening_notation}
use Rattle.ed_initial.proofs.Opened.{state-shown}
use Rattle.ed_initial.proofs.Paths.{state}

-- orders that go on, and one more that enters the program, lead to the state at the entry
pub record LeadsIn (s : State) (e : TapeEntry) : Type 0 where
  pub before : ℕ
  pub cost_is : suc before ≡ e.cost
  pub quiet : IsQuiet before s
  pub enters_is : enters (state_after before s) ≡ true
  pub last : step (state_after before s) ≡ record { state = at_entry s e; turn = Went }
  pub arrives : state_after e.cost s ≡ at_entry s e
  pub went : (j : ℕ) → j < e.cost → (step (state_after j s)).turn ≡ Went
  pub prints_none : (progress e.cost s).codes ≡ []

pub leads_in : (s : State) (store : IsStore s.store) (e : TapeEntry)
    → Reaches (frame s store) s.store.words s.orders 0 s e → LeadsIn s e
unfolding progress
leads_in s store e a =
    let m = a.steps in
    let there =
    state-shown (frame s store) (entry_words e) (over e.notation.placed s.store.words) false
    (e.word * 2 ^ 54) e.at e.rest
    (s.orders + e.cost) in
    let last : step (state_after m s) ≡ record { state = at_entry s e; turn = Went } =
    ap step a.goes.state ∙ a.enters_by ∙ (λ i. record { state = there i; turn = Went }) in
    let cost : suc m ≡ e.cost = omega (arith, a.cost_is) in
    let went : (j : ℕ) → j < e.cost → (step (state_after j s)).turn ≡ Went = λ j l. by_place last j l (cases_lt j m) in
    record {
      before = m;
      cost_is = cost;
      quiet = a.goes.quiet;
      enters_is = ap enters a.goes.state ∙ a.enters;
      last = last;
      arrives = subst (λ k. state_after k s ≡ at_entry s e) cost (ap (λ (o : Obeyed). o.state) last);
      went = went;
      prints_none = quiet_codes e.cost s went;
    }
  where
    by_place : step (state_after a.steps s) ≡ record { state = at_entry s e; turn = Went }
        → (j : ℕ) → j < e.cost → (j < a.steps) ⊎ (a.steps ≤ j) → (step (state_after j s)).turn ≡ Went
    by_place last j l (inl low) = (a.goes.quiet j low).went
    by_place last j l (inr high) =
        let same : a.steps ≡ j = omega (arith, a.cost_is) in
        subst (λ k. (step (state_after k s)).turn ≡ Went) same (ap (λ (o : Obeyed). o.turn) last)

-- from a started machine
pub comes_in : (s : State) (e : TapeEntry) → IsStore s.store → IsStarted s → ReachesEntry s e → LeadsIn s e
comes_in s e store started h =
    let ws = s.store.words in
    let f = frame s store in
    let set : IsDirective 20568 = omega arith in
    let read : reading_on s.size ws 0 9 (opening ws) None s.tape ≡ Arrived e =
    (reading_is_rules s.size ws (opening ws) 9 s.tape set).arrived e h.well h.comes in
    let first : Rest = record { scratch = first_scratch s; row = 0; cost = 9; notation = opening ws } in
    let rest = Reaches-loads f ws s.orders s.tape first (opening_notation ws (store.fits 42)) read in
    let begun : Reaches f ws s.orders 0 (state f (begins s store) (s.orders + 0)) e =
    Reaches-prepend f ws s.orders 9 0 (first_path s store) rest in
    let zero : s.orders + 0 ≡ s.orders = omega arith in
    let same : state f (begins s store) (s.orders + 0) ≡ s = ap (state f (begins s store)) zero
    ∙ state-opened s store started in
    leads_in s store e (subst (λ x. Reaches f ws s.orders 0 x e) same begun)
