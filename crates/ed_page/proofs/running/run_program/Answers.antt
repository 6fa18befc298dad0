use Rattle.ed_page.proofs.Kit.{rules, run1_of, NotedRun, refl, sym, ◌∙◌, run_of, tape_outcome, tape_outcome_by}
use Rattle.ed_tapes.specs.FirstOrders.{tape1_outcome}
use Rattle.ed_page.specs.Private.Requests.{run_by}
use Rattle.ed_page.proofs.Endings.{plain_tape, ran_is}
use Rattle.ed_page.proofs.Replies.{rows_not_run, rows_run, source_run}
use Rattle.ed_page.proofs.running.run_program.Goals.{in-Orders41, in-Orders31}
use Rattle.ed_page.proofs.running.run_program.Goals as goal

pub returns-in_err-rows : goal.returns-in_err-rows
returns-in_err-rows c =
    let orders = c.in-Tape.initial_orders in
    rw c.in-Tape.is
    (rows_not_run (tape_outcome_by orders c.args.settings) (run_by orders c.args.settings) c.args.text.now _ _
    c.in_err-rows.ensures.is c.from_residual.ensures)

pub returns-in-Source : goal.returns-in-Source
returns-in-Source c = search (rules, source_run)

pub returns : goal.returns
returns c =
    let s = c.args.settings in
    let noted : NotedRun = record { ran = c.in_ok-ran.ran; note = c.in_ok-note.note } in
    rw c.in-Tape.is
    (elim c.match-initial_orders.branch [
      | in-Orders41 w ↦
          rw w.in-Orders41.is
          (rows_run (tape_outcome s) (run_of s) c.args.text.now noted c.in_ok-rows.ensures.is
          (plain_tape s _ c.requires)
          (ran_is _ (sym w.branch'-is ∙ c.in_ok-ran.was) w.run_rows.ensures.is) c.in_ok-note.ensures)
      | in-Orders31 w ↦
          rw w.in-Orders31.is
          (rows_run (tape1_outcome s) (run1_of s) c.args.text.now noted c.in_ok-rows.ensures.is refl
          (ran_is _ (sym w.branch'-is ∙ c.in_ok-ran.was) w.run_rows1.ensures) c.in_ok-note.ensures)
    ])
