-- From the paths of the listing to steps of the machine.
use Rattle.ed_initial.proofs.Kit.{rules, not, not-true, Kind, Moment, Moves, Obeyed, State, progress, state_after, ap}
use Rattle.ed_initial.proofs.Kit.{arith, Bool, false, refl, subst, suc, sym, true, ℕ, ◌&&◌, ◌+◌, ◌∙◌, ◌≡◌, and_parts}
use Rattle.ed_initial.proofs.Kit.{enters, GoesOn, IsQuiet, is_rest}
use Rattle.ed_machine.proofs.Kit.Orders.{IsOrder}
use Rattle.ed_machine.proofs.Steps.{after_sum, each_sum}
use Rattle.ed_initial.proofs.Paths.{Kept, piece, state, is_calm, Walk, stay, on, ToRest, ends}

-- an order that is quiet does not enter
pub enters-quiet : {top : ℕ} {kind : Kind} (s : State) → IsOrder top kind s
    → is_calm kind s.counter ≡ true → enters s ≡ false
enters-quiet {kind = kind} s o h = search rules

-- an order that goes on reaches no rest
pub is_rest-passes : (q : Bool) (place : ℕ) → (q && not (is_rest place)) ≡ true → (q ≡ true) × (is_rest place ≡ false)
is_rest-passes q place h = let p = and_parts q (not (is_rest place)) h in (p.0, not-true (is_rest place) p.1)

-- k orders that go on lead from one state to another
pub record Goes (k : ℕ) (s t : State) : Type 0 where
  pub state : state_after k s ≡ t
  pub quiet : IsQuiet k s

pub Goes-none : (s : State) → Goes 0 s s
unfolding progress
Goes-none s = record { state = refl; quiet = λ j h. absurd (omega arith) }

pub one : (f : Kept) (kind : Kind) (r t : Moment) (o : ℕ) → Moves (piece f) kind r t → is_calm kind r.counter ≡ true
    → Goes 1 (state f r o) (state f t (o + 1))
unfolding progress
one f kind r t o m q = record {
  state = ap (λ (x : Obeyed). x.state) (m.does o);
  quiet = λ j h.
      let e : 0 ≡ j = omega arith in
      let went = ap (λ (x : Obeyed). x.turn) (m.does o) in
      subst (λ x. GoesOn (state_after x (state f r o))) e (record {
        went = went;
        stays = enters-quiet (state f r o) (m.order o) q;
      });
}

pub Goes-joined : (a b : ℕ) (s m t : State) → Goes a s m → Goes b m t → Goes (a + b) s t
Goes-joined a b s m t g h = record {
  state = after_sum a b s ∙ ap (state_after b) g.state ∙ h.state;
  quiet = each_sum GoesOn a b s g.quiet (subst (IsQuiet b) (sym g.state) h.quiet);
}

pub Goes-along : {f : Kept} {k : ℕ} {r t : Moment} → Walk f k r t → (o : ℕ) → Goes k (state f r o) (state f t (o + k))
Goes-along {f} {t = t} stay o = let e : o + 0 ≡ o = omega arith in rw e (Goes-none (state f t o))
Goes-along {f} {t = t} (on {k = k} {kind = kind} {r = r} {m = m} first away rest) o =
    let e : o + suc k ≡ o + 1 + k = omega arith in
    let sum : suc k ≡ 1 + k = omega arith in
    let calm = (is_rest-passes (is_calm kind r.counter) m.counter away).0 in
    rw (e, sum) (Goes-joined 1 k (state f r o) (state f m (o + 1)) (state f t (o + 1 + k)) (one f kind r m o first calm)
    (Goes-along rest (o + 1)))

pub Goes-whole : {f : Kept} {k : ℕ} {r t : Moment} → ToRest f k r t → (o : ℕ) → Goes k (state f r o) (state f t (o + k))
Goes-whole {f} {t = t} (ends {k = k} {kind = kind} {r = r} {m = m} runs last calm) o =
    let e : o + suc k ≡ o + k + 1 = omega arith in
    let sum : suc k ≡ k + 1 = omega arith in
    rw (e, sum) (Goes-joined k 1 (state f r o) (state f m (o + k)) (state f t (o + k + 1)) (Goes-along runs o)
    (one f kind m t (o + k) last calm))
