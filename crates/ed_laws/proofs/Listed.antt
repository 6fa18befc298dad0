-- What `listing` shows is what the store holds at the entry.
use Rattle.ed_laws.proofs.Kit.{RunEnd, Settings, State, progress, run_end, entry_of, cost, ap, arith, Some, sym, ℕ, ◌-◌}
use Rattle.ed_laws.proofs.Kit.{◌∙◌, ◌≡◌, entry_note, Outcome, paper_room, ran_outcome, with_post_mortem}
use Rattle.ed_laws.proofs.Kit.{each_answer_is_from_entry, [], Limit, limit_there}
use Rattle.ed_headline.proofs.Kit.{linked_places, listing, entry_state}
use Rattle.ed_laws.specs.Listed.{EachListedIsLoaded, up_to_entry}

-- a run of no order leaves the state unchanged, and prints nothing
no_order : (resumes room : ℕ) (s : State) → run_end 0 resumes room s ≡ record { ending = Limit; state = s; codes = [] }
unfolding progress
no_order resumes room s = limit_there 0 resumes room s (λ j less. absurd (omega arith))

pub each_listed_is_loaded : EachListedIsLoaded
each_listed_is_loaded s source lines accepted =
    let enters = (each_answer_is_from_entry s source lines accepted).enters in
    record {
      listed = ap (λ (t : State). listing t.store (linked_places lines)) (sym enters.state_is);
      shown = λ w.
          let t : Settings = up_to_entry s lines w in
          let whole = (each_answer_is_from_entry t source lines accepted).entered (omega arith) in
          let none : cost lines - cost lines ≡ 0 = omega arith in
          let from = entry_state s.size lines in
          ap (λ (o : Outcome). o.out) whole
          ∙ ap (λ (r : RunEnd). (ran_outcome (entry_note (entry_of lines) (cost lines))
          (with_post_mortem (Some w) r)).out)
          (ap (λ n. run_end n s.resumes paper_room from) none ∙ no_order s.resumes paper_room from);
    }
