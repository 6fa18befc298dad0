use Rattle.ed_stepper.proofs.Kit.{is_obeyed, stops_of, next_state, ap, arith, false, refl, sym, ℕ, ◌+◌, ◌∙◌}
use Rattle.ed_codes.specs.Spelling.{byte_of}
use Rattle.ed_run.proofs.Pasts.{first_more, past_first, past_limit, past_more, past_stops}
use Rattle.ed_io.specs.Causes.{next_count}
use Rattle.ed_stepper.proofs.Going.{never_ends, no_stop, obeyed_turn, past_blocks}
use Rattle.ed_stepper.proofs.Growing.{breaks_line, lines_first, next_lines}
use Rattle.ed_stepper.proofs.tracing.trace_orders.Goals.{in-Stopped+else-stops-resumes, in_default-turn}
use Rattle.ed_stepper.proofs.tracing.trace_orders.Goals as goal

pub loop-done-init : goal.loop-done-init
loop-done-init g c = record {
  past = past_first _ _ _ _;
  lines = lines_first _ _ _ c.requires.line;
  room = refl;
  count = omega arith;
  faults = refl;
}

pub returns-in-NoOrder : goal.returns-in-NoOrder
returns-in-NoOrder g c =
    let i = c.loop-done.invariant in
    let step = c.step-turn.ensures in
    record {
      trace = record {
        orders = c.loop-done.done;
        ends = past_blocks i.past c.loop-done-test.true step.turn c.in-NoOrder.is refl;
        state_is = step.blocked (ap is_obeyed c.in-NoOrder.is) ∙ i.past.state;
        lines = i.lines;
      };
      room = i.room;
      faults = i.faults;
    }

pub returns-in-NoTape : goal.returns-in-NoTape
returns-in-NoTape g c =
    let i = c.loop-done.invariant in
    let step = c.step-turn.ensures in
    record {
      trace = record {
        orders = c.loop-done.done;
        ends = past_blocks i.past c.loop-done-test.true step.turn c.in-NoTape.is refl;
        state_is = step.blocked (ap is_obeyed c.in-NoTape.is) ∙ i.past.state;
        lines = i.lines;
      };
      room = i.room;
      faults = i.faults;
    }

pub returns-in-Err : goal.returns-in-Err
returns-in-Err g c =
    let i = c.loop-done.invariant in
    let none = never_ends _ _ c.loop-done-test.true c.step-turn.ensures.turn (obeyed_turn _ c.in-Went.is) in
    record {
      trace = breaks_line i.lines i.past.state (c.byte_of-letter.ensures.is
          ∙ ap (λ (f : ℕ). byte_of f false) c.next_function.ensures) _ _ c.in-Err.ensures.puts
          (first_more i.past c.loop-done-test.true none)
          (next_state _ _ i.past.state c.step-turn.ensures.state);
      room = c.in-Err.ensures.room ∙ i.room;
      faults = c.in-Err.ensures.faults ∙ ap next_count i.faults;
    }

pub returns-then-stops-resumes : goal.returns-then-stops-resumes
returns-then-stops-resumes g c =
    let i = c.loop-done.invariant in
    record {
      trace = record {
        orders = c.loop-done.done + 1;
        ends = past_stops i.past c.loop-done-test.true
            (never_ends _ _ c.loop-done-test.true c.step-turn.ensures.turn (ap is_obeyed c.in-Stopped.is))
            (sym c.step-turn.ensures.turn ∙ c.in-Stopped.is) (omega (arith, c.if-stops-resumes.true));
        state_is = next_state _ _ i.past.state c.step-turn.ensures.state;
        lines = next_lines i.lines i.past.state (c.byte_of-letter.ensures.is
            ∙ ap (λ (f : ℕ). byte_of f false) c.next_function.ensures) _ c.in_default.ensures.puts;
      };
      room = c.in_default.ensures.room ∙ i.room;
      faults = c.in_default.ensures.faults ∙ i.faults;
    }

pub loop-done-preserved : goal.loop-done-preserved
loop-done-preserved g c =
    let i = c.loop-done.invariant in
    let none = never_ends _ _ c.loop-done-test.true c.step-turn.ensures.turn (obeyed_turn _ c.in-Went.is) in
    record {
      past = elim c.match-turn-2.branch [
        | in-Stopped+else-stops-resumes w ↦
            past_more i.past c.loop-done-test.true none (sym c.step-turn.ensures.turn)
            c.step-turn.ensures.state
            (w.stops-is ∙ ap (λ t. c.loop-done.stops + stops_of t) (sym w.in-Stopped.is))
            (omega (arith, w.stops-is, i.past.within, w.if-stops-resumes.false))
        | in_default-turn w ↦
            let silent = no_stop _ w.in_default-turn.not-Stopped in
            past_more i.past c.loop-done-test.true none (sym c.step-turn.ensures.turn)
            c.step-turn.ensures.state
            (omega (arith, w.stops-is, silent)) (omega (arith, w.stops-is, i.past.within))
      ];
      lines = next_lines i.lines i.past.state (c.byte_of-letter.ensures.is
          ∙ ap (λ (f : ℕ). byte_of f false) c.next_function.ensures) _ c.in_default.ensures.puts;
      room = c.in_default.ensures.room ∙ i.room;
      count = omega (arith, c.step-turn.ensures.count, i.count);
      faults = c.in_default.ensures.faults ∙ i.faults;
    }

pub returns : goal.returns
returns g c =
    let i = c.loop-done.invariant in
    record {
      trace = record {
        orders = c.loop-done.done;
        ends = past_limit i.past (omega (arith, c.loop-done-test.false, c.loop-done.auto.done-end));
        state_is = i.past.state;
        lines = i.lines;
      };
      room = i.room;
      faults = i.faults;
    }
