-- One more order of a move.
use Rattle.ed_stepper.proofs.Kit.{is_stop, Turn, NoOrder, NoTape, Printed, Went, add-one, step, State, AreObeyed}
use Rattle.ed_stepper.proofs.Kit.{is_obeyed, state_after, after_sum, next_state, no_step, ap, arith, false, inl, inr}
use Rattle.ed_stepper.proofs.Kit.{None, refl, rules, Some, sym, true, ℕ, ◌+◌, ◌<◌, ◌∙◌, ◌≡◌, ◌⊎◌, blocked_end}
use Rattle.ed_stepper.proofs.Kit.{end_after, Ends, own_end, stopped_after, MoveEnd, Limit, MoveTarget}
use Rattle.std.proofs.Common.{below_more}
use Rattle.ed_stepper.specs.declared.moves.MoveEnd.TheVariants.{Stopped as EndStopped}

-- k orders of a move have been obeyed, and it has not ended; the limit and a blocked order are not tested yet
pub record Walking (aim : MoveTarget) (left : ℕ) (s : State) (k : ℕ) (m : State) : Type 0 where
  pub state : m ≡ state_after k s
  pub free : AreObeyed k s
  pub quiet : stopped_after k s ≡ false
  pub going : own_end aim k s ≡ None
  pub first : (j : ℕ) → j < k → end_after aim left j s ≡ None

pub at_first : (aim : MoveTarget) (left : ℕ) (s : State) → own_end aim 0 s ≡ None → Walking aim left s 0 s
at_first aim left s none = search (rules, no_step)

not_blocked : (turn : Turn) → is_obeyed turn ≡ true → blocked_end turn ≡ None
not_blocked (NoOrder function) h = cc
not_blocked NoTape h = cc
not_blocked turn h = refl

-- a turn that neither stops nor is blocked
quiet_turn : (t : Turn) → (t ≡ Went) ⊎ ((x : ℕ) × (t ≡ Printed x)) → (is_obeyed t ≡ true) × (is_stop t ≡ false)
quiet_turn t (inl e) = (ap is_obeyed e, ap is_stop e)
quiet_turn t (inr p) = (ap is_obeyed p.1, ap is_stop p.1)

-- an order that was obeyed
pub record Next (aim : MoveTarget) (left : ℕ) (s : State) (k : ℕ) (m n : State) (turn : Turn) : Type 0 where
  pub state : n ≡ state_after (k + 1) s
  pub free : AreObeyed (k + 1) s
  pub stop_is : stopped_after (k + 1) s ≡ is_stop turn
  pub first : (j : ℕ) → j < k + 1 → end_after aim left j s ≡ None

-- k orders of a move below its limit have been obeyed
module _ {aim : MoveTarget} {left : ℕ} {s : State} {k : ℕ} {m : State} (w : Walking aim left s k m)
    (below : k < left) where
  -- only an order that can't be obeyed ends it now
  by_next : end_after aim left k s ≡ blocked_end (step m).turn
  by_next = search rules

  -- the move reaches one
  pub Ends-blocks : {end : MoveEnd} → blocked_end (step m).turn ≡ Some end → Ends aim left s k end
  Ends-blocks is = record { now = by_next ∙ is; first = w.first }

  -- its next order
  module _ {n : State} {turn : Turn} (is : turn ≡ (step m).turn) (to : n ≡ (step m).state) where
    pub Next-obeyed : is_obeyed turn ≡ true → Next aim left s k m n turn
    Next-obeyed obeyed =
        let same : (step (state_after k s)).turn ≡ turn = ap (λ (x : State). (step x).turn) (sym w.state) ∙ sym is in
        record {
          state = next_state k s w.state to;
          free = below_more (λ j. is_obeyed (step (state_after j s)).turn ≡ true) k w.free (ap is_obeyed same ∙ obeyed);
          stop_is = rw add-one (ap is_stop same);
          first = below_more (λ j. end_after aim left j s ≡ None) k w.first
              (by_next ∙ ap blocked_end (sym is) ∙ not_blocked turn obeyed);
        }

    -- if it neither stops nor is blocked
    pub Next-taken : (turn ≡ Went) ⊎ ((x : ℕ) × (turn ≡ Printed x))
        → Next aim left s k m n turn × (is_stop turn ≡ false)
    Next-taken quiet = let q = quiet_turn turn quiet in (Next-obeyed q.0, q.1)

-- after such an order
module _ {aim : MoveTarget} {left : ℕ} {s : State} {k : ℕ} {m n : State} {turn : Turn}
    (next : Next aim left s k m n turn) where
  -- the move goes on
  pub goes_on : is_stop turn ≡ false → own_end aim (k + 1) s ≡ None → Walking aim left s (k + 1) n
  goes_on go none = search rules

  -- it ends with a stop
  pub Ends-stops : is_stop turn ≡ true → Ends aim left s (k + 1) EndStopped
  Ends-stops stop = let e = next.stop_is ∙ stop in record { now = rw e refl; first = next.first }

  -- it reaches its own end
  pub Ends-owns : {end : MoveEnd} → is_stop turn ≡ false → own_end aim (k + 1) s ≡ Some end
      → Ends aim left s (k + 1) end
  Ends-owns go own = let e = next.stop_is ∙ go in record { now = rw (e, own) refl; first = next.first }

-- a move reaches the limit
pub Ends-limits : {aim : MoveTarget} {left : ℕ} {s m : State} → Walking aim left s left m → Ends aim left s left Limit
Ends-limits {left = left} w = search rules

-- it ends before any order
pub ends_at_once : (aim : MoveTarget) (left : ℕ) (s : State) (end : MoveEnd) → own_end aim 0 s ≡ Some end
    → Ends aim left s 0 end
ends_at_once aim left s end own = record { now = rw own refl; first = λ j h. absurd (omega arith) }

-- the state k + 1 orders after another
pub after_from : (from k : ℕ) (s start m : State) → m ≡ state_after (k + 1) s → s ≡ state_after from start
    → m ≡ state_after (from + k + 1) start
after_from from k s start m is at = search (rules, after_sum)

-- as many orders as the limit allows
pub at_limit : {aim : MoveTarget} {left : ℕ} {s : State} {k : ℕ} {m : State} → k ≡ left → Walking aim left s k m
    → Walking aim left s left m
at_limit e w = rw e at w
