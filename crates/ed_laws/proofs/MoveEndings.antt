-- A move that doesn't end by its own end stops where a run ends.
use Rattle.ed_laws.proofs.Kit.{none-some, Ending, Limit, Stopped, Turn, next_stops, HasRoom, ran_is, ap, arith, Bool}
use Rattle.ed_laws.proofs.Kit.{false, if◌then◌else◌, length, nat_eq, nat_le, None, Option, refl, rules, Some, subst}
use Rattle.ed_laws.proofs.Kit.{suc, sym, true, ℕ, ◌+◌, ◌-◌, ◌<◌, ◌∙◌, ◌≡◌, ◌≤◌, nat_tests, step, State, progress}
use Rattle.ed_laws.proofs.Kit.{state_after, end_by, EndsAfter, run_end, move_end, AreObeyed, after_sum, free_sum}
use Rattle.ed_laws.proofs.Kit.{move_orders, move_free, zero, same_Some, stops_of}
use Rattle.ed_stepper.proofs.Kit.{is_stop, blocked_end, own_end, stopped_after}
use Rattle.ed_machine.specs.declared.turn.Turn.TheVariants.{Stopped as Stops}
use Rattle.ed_stepper.specs.MoveEnds.{or_else}
use Rattle.ed_stepper.specs.declared.moves.MoveEnd.{MoveEnd}
use Rattle.ed_stepper.specs.declared.moves.MoveTarget.{MoveTarget}
use Rattle.ed_stepper.proofs.Founds.{move_ends}
use Rattle.ed_stepper.proofs.Stands.{move_within}
use Rattle.ed_laws.specs.Stepped.{ending_of, resumes_to}
use Rattle.ed_run.proofs.Places as places
use Rattle.ed_stepper.specs.declared.moves.MoveEnd.TheVariants as ends

-- ---- the end of a move

-- a move's own end is not an ending of a run
own_is_none : (aim : MoveTarget) (k : ℕ) (s : State) (end : MoveEnd) → own_end aim k s ≡ Some end → ending_of end ≡ None
own_is_none aim k s end = search rules

-- an order that can't be obeyed ends a run as it ends a move
blocked_is : (turn : Turn) (full : Bool) (end : MoveEnd) (ending : Ending) → blocked_end turn ≡ Some end
    → ending_of end ≡ Some ending → end_by turn full ≡ Some ending
blocked_is turn full end ending h e = search rules

-- the next order doesn't end a run at a stop: a stop is one that was obeyed
pub not_stopped_by : (turn : Turn) (full : Bool) → end_by turn full ≡ Some Stopped → ⊥
not_stopped_by turn full h = search rules

stop_is : (t : Turn) → is_stop t ≡ true → t ≡ Stops
stop_is t h = search rules

-- the resumes of an ending that is not a stop
all_resumes : (ending : Ending) (stops : ℕ) → (ending ≡ Stopped → ⊥) → resumes_to ending stops ≡ stops
all_resumes ending stops other = search rules

-- of a session that has obeyed n orders
module _ (limit room n : ℕ) (s : State) (free : AreObeyed n s) (most : n ≤ limit) (aim : MoveTarget) where
  abbrev pub at : State
  at = state_after n s

  abbrev pub left : ℕ
  left = limit - n

  abbrev pub orders : ℕ
  orders = move_orders aim left at

  few : orders ≤ left
  few = move_within aim left at

  all_free : AreObeyed (n + orders) s
  all_free = free_sum n orders s free (move_free aim left at)

  module _ (ending : Ending) (fits : length (progress (n + orders) s).codes ≤ room) where
    -- the last order was a stop
    by_stop : (k : ℕ) → orders ≡ k → stopped_after k at ≡ true
        → EndsAfter limit ((progress (n + orders) s).stops - 1) room s (n + orders) Stopped
    by_stop zero is stop = absurd (cc)
    by_stop (suc j) is stop =
        let turn : (step (state_after (n + j) s)).turn ≡ Stops =
        ap (λ (x : State). (step x).turn) (after_sum n j s) ∙ stop_is _ stop in
        let whole : n + orders ≡ suc (n + j) = omega (arith, is) in
        let plus : n + j + 1 ≡ suc (n + j) = omega arith in
        let stops : (progress (suc (n + j)) s).stops ≡ (progress (n + j) s).stops + 1 =
        ap (λ m. (progress m s).stops) (sym plus) ∙ next_stops (n + j) s
        ∙ ap (λ (t : Turn). (progress (n + j) s).stops + stops_of t) turn in
        let room_there : HasRoom room (suc (n + j)) s =
        subst (λ m. HasRoom room m s) whole (record { obeyed = all_free; printed = fits }) in
        let low : suc (n + j) ≤ limit = omega (arith, few, most, is) in
        subst (λ m. EndsAfter limit ((progress m s).stops - 1) room s m Stopped) (sym whole)
        (places.at_stop limit ((progress (suc (n + j)) s).stops - 1) room_there (omega (arith, stops)) low turn)

    by_tests : (stop : Bool) (own : Option MoveEnd) (same : Bool) (end : MoveEnd) → stopped_after orders at ≡ stop
        → own_end aim orders at ≡ own → nat_eq orders left ≡ same
        → (if stop then Some ends.Stopped else or_else own
        (if same then Some ends.Limit else blocked_end (step (state_after orders at)).turn)) ≡ Some end
        → ending_of end ≡ Some ending
        → EndsAfter limit (resumes_to ending (progress (n + orders) s).stops) room s (n + orders) ending
    by_tests true own same end stop_is_it own_is same_is h e = search (rules, by_stop)
    by_tests false (Some mine) same end stop_is_it own_is same_is h e = search (rules, own_is_none, none-some)
    by_tests false None true end stop_is_it own_is same_is h e =
        let is : Limit ≡ ending = same_Some Limit ending (ap ending_of (same_Some ends.Limit end h) ∙ e) in
        let all : orders ≡ left = grind (arith, nat_tests) in
        let whole : n + orders ≡ limit = omega (arith, all, most) in
        subst (λ (d : Ending). EndsAfter limit (resumes_to d (progress (n + orders) s).stops) room s (n + orders) d) is
        (subst (λ m. EndsAfter m (progress (n + orders) s).stops room s (n + orders) Limit) whole
        (places.at_limit (n + orders) (progress (n + orders) s).stops (record { obeyed = all_free; printed = fits })
        (omega arith)))
    by_tests false None false end stop_is_it own_is same_is h e =
        let less : orders < left = let low = few in grind (arith, nat_tests) in
        let turn = λ (full : Bool). blocked_is (step (state_after orders at)).turn full end ending h e in
        let other : ending ≡ Stopped → ⊥ =
        λ is. not_stopped_by (step (state_after orders at)).turn true (turn true ∙ ap Some is) in
        let there = ap (λ (x : State). (step x).turn) (after_sum n orders s) in
        let full = nat_le room (length (progress (n + orders) s).codes) in
        subst (λ r. EndsAfter limit r room s (n + orders) ending) (sym (all_resumes ending _ other))
        (places.at_block limit (progress (n + orders) s).stops (record { obeyed = all_free; printed = fits })
        (omega arith) (omega (arith, less))
        (ap (λ (t : Turn). end_by t full) there ∙ turn full))

    -- the run ends so there
    pub run_ends : ending_of (move_end aim left at) ≡ Some ending
        → run_end limit (resumes_to ending (progress (n + orders) s).stops) room s
        ≡ record { ending = ending; state = state_after (n + orders) s; codes = (progress (n + orders) s).codes }
    run_ends is =
        ran_is limit _ room (n + orders) s ending
        (by_tests (stopped_after orders at) (own_end aim orders at) (nat_eq orders left) (move_end aim left at)
        refl refl refl
        (move_ends aim left at).now is)
