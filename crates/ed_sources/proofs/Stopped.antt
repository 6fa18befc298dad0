-- The outcome of a source whose program reaches its stop.
use Rattle.ed_sources.proofs.Kit.{Settings, Line, codes, None, Text, append-nil, ReachesStop, [], ap, arith, length}
use Rattle.ed_sources.proofs.Kit.{List, rules, suc, ℕ, ◌++◌, ◌+◌, ◌-◌, ◌∷◌, ◌≡◌, ◌≤◌, step, State, at_after}
use Rattle.ed_sources.proofs.Kit.{AnswersFromEntry, paper, run_end, RunEnd, entry_of, cost, entry_note, entry_state}
use Rattle.ed_sources.proofs.Kit.{run_outcome}
use Rattle.ed_tapes.specs.Runs.{paper_room, ran_outcome, with_post_mortem}
use Rattle.ed_sources.proofs.Stops.{RanToStop, ran_to_stop}

-- no post-mortem prints nothing
pub nothing_after : (r : RunEnd) → with_post_mortem None r ≡ r
nothing_after r = ap (λ (codes : List ℕ). record r { codes = codes }) (append-nil r.codes)

-- the answer to a run that stopped
pub ran_outcome-answered : (before : Text) (r : RunEnd) {printed : List ℕ} {last : State} {at orders : ℕ}
    → RanToStop r printed last
    → (step last).state.counter ≡ at → (step last).state.orders ≡ orders
    → ran_outcome before r
    ≡ record { out = paper printed; note = before ++ (at_after (codes "stopped") at orders ++ 10 ∷ []); status = 0 }
ran_outcome-answered before r {last = last} o counter orders = search rules

-- what is left of a limit after the orders up to the entry
left_after : (cost k limit : ℕ) → cost + (k + 1) ≤ limit → (cost ≤ limit) × (suc k ≤ limit - cost)
left_after cost k limit fits = (omega arith, omega arith)

counted : (orders cost k : ℕ) → orders ≡ cost + k + 1 → orders ≡ cost + (k + 1)
counted orders cost k is = omega arith

-- the program of a source reaches its stop, and the limit is not below its orders and those up to the entry
pub stopped_outcome : (s : Settings) {lines : List Line} {k at : ℕ} {printed : List ℕ} → AnswersFromEntry s lines
    → ReachesStop k (entry_state s.size lines) printed at → length printed ≤ paper_room
    → s.resumes ≡ 0 → s.post_mortem ≡ None → cost lines + (k + 1) ≤ s.limit
    → run_outcome s lines ≡ record {
      out = paper printed;
      note = entry_note (entry_of lines) (cost lines) ++
          (at_after (codes "stopped") at (cost lines + (k + 1)) ++ 10 ∷ []);
      status = 0;
    }
stopped_outcome s {lines} {k} {at} {printed} entry stops few none plain fits =
    let left : ℕ = s.limit - cost lines in
    let first : State = entry_state s.size lines in
    let r : RunEnd = run_end left 0 paper_room first in
    let before : Text = entry_note (entry_of lines) (cost lines) in
    let ended = ran_to_stop left paper_room k first printed stops few (left_after (cost lines) k s.limit fits).1 in
    let count : (step stops.last).state.orders ≡ cost lines + (k + 1) = counted _ (cost lines) k stops.orders in
    search (rules, left_after, nothing_after, ran_outcome-answered)
