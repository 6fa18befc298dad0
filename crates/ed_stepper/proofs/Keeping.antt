-- What a session keeps over a move.
use Rattle.ed_stepper.proofs.Kit.{State, state_after, after_sum, [], ap, arith, List, refl, rules, subst, sym, ℕ, ◌+◌}
use Rattle.ed_stepper.proofs.Kit.{◌-◌, ◌∙◌, ◌≡◌, ◌≤◌, AreCheckpoints, IsCheckpoint, Ends, Moves, Checkpoint, MoveEnd}
use Rattle.ed_stepper.proofs.Kit.{MoveTarget}
use Rattle.ed_stepper.proofs.Founds.{orders_found, end_found}

pub no_checkpoints : (start : State) (checkpoints : List Checkpoint) → checkpoints ≡ []
    → AreCheckpoints start checkpoints
no_checkpoints start checkpoints is = search rules

-- a walk from the state of a session is a move
pub moves_so : {aim : MoveTarget} {start machine last : State} {limit done orders at : ℕ} {end : MoveEnd}
    → machine ≡ state_after done start
    → Ends aim (limit - done) machine orders end → last ≡ state_after orders machine → at ≡ last.counter
    → Moves aim (record { start = start; limit = limit; done = done }) (record {
      start = start;
      limit = limit;
      done = done + orders;
    })
    (record { at = at; done = done + orders; end = end })
moves_so {aim} {start} {limit = limit} {done} {orders} {end = end} is ends to place =
    let from : Ends aim (limit - done) (state_after done start) orders end =
    subst (λ (x : State). Ends aim (limit - done) x orders end) is ends in
    record {
      orders = orders;
      ends = from;
      orders_are = orders_found aim (limit - done) orders (state_after done start) end from;
      end_is = end_found aim (limit - done) orders (state_after done start) end from;
      done_is = refl;
      at_is = place ∙ ap (λ (x : State). x.counter)
          (to ∙ ap (state_after orders) is ∙ sym (after_sum done orders start));
      stand_is = refl;
    }

-- the state after `done` orders, starting from a copy
pub from_checkpoint : (start : State) (m : Checkpoint) (done : ℕ) → IsCheckpoint start m → m.done ≤ done
    → state_after (done - m.done) m.machine ≡ state_after done start
from_checkpoint start m done checkpoint low =
    let e : m.done + (done - m.done) ≡ done = omega arith in
    ap (state_after (done - m.done)) checkpoint.is ∙ sym (after_sum m.done (done - m.done) start)
    ∙ ap (λ k. state_after k start) e
