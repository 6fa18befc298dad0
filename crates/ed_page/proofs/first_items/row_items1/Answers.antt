use Rattle.ed_page.proofs.Kit.{rules, common_steps, lit<, IsFault1, Tape1Cause, arith, Err, List, refl, subst, ℕ, ◌≡◌}
use Rattle.ed_page.proofs.Kit.{done, Gives, IsItemsOutcome1}
use Rattle.ed_initial1.specs.Checks.{Answers1}
use Rattle.ed_initial1.specs.declared.cause.Tape1Fault.{Tape1Fault}
use Rattle.ed_initial1.specs.declared.cause.Tape1Fault.TheVariants.{At, Memory}
use Rattle.ed_page.proofs.FirstItemRows.{fault_told1, program_told1}
use Rattle.ed_page.proofs.Replies.{none_answered}
use Rattle.ed_page.proofs.first_items.row_items1.Goals as goal

-- a fault at a row is not that no memory was found
not_memory : {row : ℕ} {cause : Tape1Cause} → ◌≡◌ {A = Tape1Fault} (At row cause) Memory → ⊥
not_memory same = cc

pub returns-in_ok-item_table1-in-Ok : goal.returns-in_ok-item_table1-in-Ok
returns-in_ok-item_table1-in-Ok c =
    program_told1 c.in-Ok.ensures.answers c.rows.ensures
    (subst (λ (out : List ℕ). Gives c.done.result (done out)) c.in_ok-item_table1-in-Ok.ensures c.done.ensures)

pub returns-in_ok-out-in-Err-At : goal.returns-in_ok-out-in-Err-At
returns-in_ok-out-in-Err-At c =
    let row = c.in-Err-At.row in
    let cause = c.in-Err-At.cause in
    let fault : IsFault1 c.args.rows.now row cause =
    subst (λ (f : Tape1Fault). Answers1 c.args.rows.now (Err f)) c.in-Err-At.field-0-is c.in-Err-At.ensures.answers in
    fault_told1 fault (record {
      out_is = c.in_ok-out-in-Err-At.ensures;
      note_is = c.in_ok-note-in-Err-At.ensures;
      status_is = refl;
      low = lit< tt;
    })

pub item_table1-requires : goal.item_table1-requires
item_table1-requires c = record { few = c.requires; count = grind (arith, common_steps) }

pub item_table1-requires-in-Err-At : goal.item_table1-requires-in-Err-At
item_table1-requires-in-Err-At c = record { few = c.requires; count = grind (arith, common_steps) }

pub tape1_fault-requires : goal.tape1_fault-requires
tape1_fault-requires c e = not_memory e

pub returns-in_err-item_table1-in-Ok : goal.returns-in_err-item_table1-in-Ok
returns-in_err-item_table1-in-Ok c = none_answered IsItemsOutcome1 c.args.rows.now _ c.from_residual.ensures

pub returns-in_err-out-in-Err-At : goal.returns-in_err-out-in-Err-At
returns-in_err-out-in-Err-At c = search rules

pub returns-in_err-note-in-Err-At : goal.returns-in_err-note-in-Err-At
returns-in_err-note-in-Err-At c = search rules

pub returns-in-Err-Memory : goal.returns-in-Err-Memory
returns-in-Err-Memory c = tt
