-- A walk along a path of the listing ends where the path does.
use Rattle.ed_initial.proofs.Kit.{rules, Went, Moment, zero, Obeyed, step, State, progress, state_after, ap, arith}
use Rattle.ed_initial.proofs.Kit.{Bool, false, None, refl, Some, suc, true, ℕ, ◌+◌, ◌<◌, ◌∙◌, ◌≡◌, ◌≤◌, enters, Enters}
use Rattle.ed_initial.proofs.Kit.{event_by, is_rest, walk_end, walk_orders, WalkEnds, Rested, At}
use Rattle.ed_machine.proofs.Kit.Paths.{first_state}
use Rattle.ed_initial.specs.Load.{Rests}
use Rattle.ed_initial.specs.declared.resting.Rested.TheVariants.{Entered}
use Rattle.ed_initial.proofs.Goes.{Goes-along, Goes-whole, enters-quiet, is_rest-passes}
use Rattle.ed_initial.proofs.Paths.{Kept, state, is_calm, Walk, stay, on, ToRest, ends, Enters as EntersBy}
use Rattle.ed_initial.proofs.Runs.{ends_there}

-- what an order of a path does to a walk
event_of : (s t : State) (jumps rests : Bool) → step s ≡ record { state = t; turn = Went } → enters s ≡ jumps
    → is_rest t.counter ≡ rests
    → walk_end s ≡ event_by true jumps rests true
event_of s t jumps rests does a b = rw (does, a, b) refl

one_earlier : (j : ℕ) (s t : State) → step s ≡ record { state = t; turn = Went }
    → state_after (suc j) s ≡ state_after j t
one_earlier j s t does = first_state j s ∙ ap (λ (x : Obeyed). state_after j x.state) does

-- the orders of a path that goes on don't end a walk
walk_along : {f : Kept} {k : ℕ} {r t : Moment} → Walk f k r t → (o : ℕ) → (j : ℕ) → j < k
    → walk_end (state_after j (state f r o)) ≡ None
unfolding progress
walk_along stay o j h = absurd (omega arith)
walk_along {f} (on {kind = kind} {r = r} {m = m} first away rest) o zero h =
    let p = is_rest-passes (is_calm kind r.counter) m.counter away in
    event_of (state f r o) (state f m (o + 1)) false false (first.does o)
    (enters-quiet (state f r o) (first.order o) p.0) p.1
walk_along {f} (on {r = r} {m = m} first away rest) o (suc j) h =
    search (rules, one_earlier, (walk_along rest (o + 1) j (omega arith)))

-- a walk along a path
pub walks_path : {f : Kept} {k : ℕ} {r t : Moment} → ToRest f k r t → is_rest t.counter ≡ true → k ≤ 17
    → (o : ℕ) (u : State) (res : Rested)
    → WalkEnds (state f r o) res → u ≡ state_after (walk_orders res) (state f r o)
    → (res ≡ At t.counter k) × (u ≡ state f t (o + k))
walks_path {f} {t = t} (ends {k = k} {r = r} {m = m} runs last calm) rest most o u res h is =
    let s = state f r o in
    let there = Goes-along runs o in
    let e : walk_end (state_after k s) ≡ Some Rests =
    ap walk_end there.state
    ∙ event_of (state f m (o + k)) (state f t (o + k + 1)) false true (last.does (o + k))
    (enters-quiet (state f m (o + k)) (last.order (o + k)) calm) rest in
    let end : state_after (suc k) s ≡ state f t (o + suc k) = (Goes-whole (ends runs last calm) o).state in
    let a : res ≡ At (state_after (suc k) s).counter (suc k) =
    ends_there h k (walk_along runs o) Rests (omega arith) e in
    let place : (state_after (suc k) s).counter ≡ t.counter = ap (λ (x : State). x.counter) end in
    (a ∙ (λ i. At (place i) (suc k)), is ∙ ap (λ x. state_after (walk_orders x) s) a ∙ end)

-- a walk that enters the program
pub walks_in : {f : Kept} {k : ℕ} {r m t : Moment} → Walk f k r m → EntersBy f m t → k < 17
    → (o : ℕ) (u : State) (res : Rested)
    → WalkEnds (state f r o) res → u ≡ state_after (walk_orders res) (state f r o)
    → (res ≡ Entered t.counter (suc k)) × (u ≡ state f t (o + suc k))
unfolding progress
walks_in {f} {k} {r} {m} {t} runs last few o u res h is =
    let s = state f r o in
    let there = Goes-along runs o in
    let does = last.does (o + k) in
    let e : walk_end (state_after k s) ≡ Some Enters =
    ap walk_end there.state
    ∙ event_of (state f m (o + k)) (state f t (o + k + 1)) true (is_rest t.counter) does (last.jumps (o + k)) refl in
    let sum : o + k + 1 ≡ o + suc k = omega arith in
    let end : state_after (suc k) s ≡ state f t (o + suc k) =
    ap (λ (x : State). (step x).state) there.state ∙ ap (λ (x : Obeyed). x.state) does ∙ ap (state f t) sum in
    let a : res ≡ Entered (state_after (suc k) s).counter (suc k) =
    ends_there h k (walk_along runs o) Enters few e in
    let place : (state_after (suc k) s).counter ≡ t.counter = ap (λ (x : State). x.counter) end in
    (a ∙ (λ i. Entered (place i) (suc k)), is ∙ ap (λ x. state_after (walk_orders x) s) a ∙ end)
