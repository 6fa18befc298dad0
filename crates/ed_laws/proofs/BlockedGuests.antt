-- A run that has a guest checked ends where the guest is blocked.
use Rattle.ed_laws.proofs.Kit.{NoOrder, Turn, counted_after, Settings, ran_is, unwrap_or, Line, ap, arith, Bool, false}
use Rattle.ed_laws.proofs.Kit.{length, List, None, rules, Some, subst, sym, ℕ, ◌+◌, ◌-◌, ◌<◌, ◌∙◌, ◌≡◌, ◌≤◌, Text, step}
use Rattle.ed_laws.proofs.Kit.{State, Progress, progress, state_after, end_by, RunEnd, entry_of, cost, entry_note}
use Rattle.ed_laws.proofs.Kit.{IsAcceptedAs, paper_room, ran_outcome, with_post_mortem, is_obeyed}
use Rattle.ed_laws.proofs.Kit.{each_answer_is_from_entry}
use Rattle.ed_laws.proofs.Limits.{none_added}
use Rattle.ed_sources.proofs.Kit.{guest, entry_state, AnswersFromEntry}
use Rattle.ed_checker.proofs.Follow.{checker_law}
use Rattle.ed_laws.specs.BlockedGuests.{EachGuestIsBlocked, EndsBlocked, IsBlockedAfter, RunsToBlock, blocked_codes}
use Rattle.ed_laws.specs.BlockedGuests.{guest_ending, orders_to_block}
use Rattle.ed_run.proofs.Places as places

-- an order that can't be obeyed ends a run
blocks : (turn : Turn) (full : Bool) → is_obeyed turn ≡ false
    → end_by turn full ≡ Some (unwrap_or (end_by turn false) NoOrder)
blocks turn full h = search rules

machines : (base q : ℕ) (m : State) (limit resumes room : ℕ) → IsBlockedAfter base q m
    → orders_to_block q (guest base m) < limit → length (blocked_codes q (guest base m)) ≤ room
    → EndsBlocked base q m limit resumes room
machines base q m limit resumes room at less fits =
    let b = at.guest_blocked in
    let c = checker_law.to_block base q m at.stands b.followed b.allowed b.blocked in
    let exact = c.exact in
    let count : c.count ≡ orders_to_block q (guest base m) = omega (arith, exact) in
    let there : state_after c.count m ≡ c.last = ap (λ (p : Progress). p.state) c.ran.is in
    let codes : (progress c.count m).codes ≡ blocked_codes q (guest base m) =
    ap (λ (p : Progress). p.codes) c.ran.is in
    let stops : (progress c.count m).stops ≤ resumes =
    omega (arith, ap (λ (p : Progress). p.stops) c.ran.is, b.no_stops) in
    let turn : (step (state_after c.count m)).turn ≡ (step (state_after q (guest base m))).turn =
    ap (λ (x : State). (step x).turn) there ∙ c.blocked in
    let ends = λ (full : Bool).
    ap (λ (t : Turn). end_by t full) turn ∙ blocks (step (state_after q (guest base m))).turn full b.blocked in
    let ran = ran_is limit resumes room c.count m (guest_ending q (guest base m))
    (places.at_block limit resumes
    (record { obeyed = c.ran.free; printed = subst (λ (xs : List ℕ). length xs ≤ room) (sym codes) fits })
    stops (omega (arith, count, less)) (ends _)) in
    search (rules, counted_after)

sources : (base q : ℕ) (s : Settings) (source : Text) (lines : List Line)
    → IsAcceptedAs s.size source lines → IsBlockedAfter base q (entry_state s.size lines)
    → cost lines + orders_to_block q (guest base (entry_state s.size lines)) < s.limit
    → length (blocked_codes q (guest base (entry_state s.size lines))) ≤ paper_room → s.post_mortem ≡ None
    → RunsToBlock base q (guest base (entry_state s.size lines)) s lines
sources base q s source lines accepted b less fits none =
    let from : AnswersFromEntry s lines = each_answer_is_from_entry s source lines accepted in
    let m = entry_state s.size lines in
    let e = machines base q m (s.limit - cost lines) s.resumes paper_room b (omega (arith, less)) fits in
    let ran : RunEnd = record {
      ending = guest_ending q (guest base m);
      state = e.last;
      codes = blocked_codes q (guest base m);
    } in
    let outcome = from.entered (omega (arith, less))
    ∙ ap (λ (r : RunEnd). ran_outcome (entry_note (entry_of lines) (cost lines)) (with_post_mortem s.post_mortem r))
    e.run in
    search (rules, none_added)

pub each_guest_is_blocked : EachGuestIsBlocked
each_guest_is_blocked = record { machines = machines; sources = sources }
