use Rattle.ed_page.proofs.Kit.{rules, common_steps, cleared_cells, TapeCause, lit<, IsFault, opening_notation, arith}
use Rattle.ed_page.proofs.Kit.{Err, List, refl, subst, ℕ, ◌≡◌, done, Gives, IsItemsOutcome}
use Rattle.ed_notation.specs.Checks.{AnswersCheck}
use Rattle.ed_notation.specs.declared.cause.TapeFault.{TapeFault}
use Rattle.ed_notation.specs.declared.cause.TapeFault.TheVariants.{At, Memory}
use Rattle.ed_page.proofs.ItemRows.{entered_told, fault_told}
use Rattle.ed_page.proofs.Replies.{none_answered}
use Rattle.ed_page.proofs.items.row_items.Goals as goal

-- a fault at a row is not that no memory was found
not_memory : {row : ℕ} {cause : TapeCause} → ◌≡◌ {A = TapeFault} (At row cause) Memory → ⊥
not_memory same = cc

pub returns-in_ok-item_table-in-Ok : goal.returns-in_ok-item_table-in-Ok
returns-in_ok-item_table-in-Ok c =
    let entered = c.in-Ok.ensures in
    entered_told c.args.size entered.accepts entered.count_is
    (subst (λ (out : List ℕ). Gives c.done.result (done out)) c.in_ok-item_table-in-Ok.ensures c.done.ensures)

pub returns-in_ok-out-in-Err-At : goal.returns-in_ok-out-in-Err-At
returns-in_ok-out-in-Err-At c =
    let row = c.in-Err-At.row in
    let cause = c.in-Err-At.cause in
    let fault : IsFault c.args.size cleared_cells.words opening_notation c.args.rows.now row cause =
    subst (λ (f : TapeFault). AnswersCheck c.args.size cleared_cells.words opening_notation 9 c.args.rows.now (Err f))
    c.in-Err-At.field-0-is c.in-Err-At.ensures in
    fault_told c.args.size fault (record {
      out_is = c.in_ok-out-in-Err-At.ensures;
      note_is = c.in_ok-note-in-Err-At.ensures;
      status_is = refl;
      low = lit< tt;
    })

pub item_table-requires : goal.item_table-requires
item_table-requires c = grind (arith, common_steps)

pub item_table-requires-in-Err-At : goal.item_table-requires-in-Err-At
item_table-requires-in-Err-At c = record { few = c.requires; count = grind (arith, common_steps) }

pub tape_fault-requires : goal.tape_fault-requires
tape_fault-requires c e = not_memory e

pub returns-in_err-item_table-in-Ok : goal.returns-in_err-item_table-in-Ok
returns-in_err-item_table-in-Ok c = none_answered (IsItemsOutcome c.args.size) c.args.rows.now _ c.from_residual.ensures

pub returns-in_err-out-in-Err-At : goal.returns-in_err-out-in-Err-At
returns-in_err-out-in-Err-At c = search rules

pub returns-in_err-note-in-Err-At : goal.returns-in_err-note-in-Err-At
returns-in_err-note-in-Err-At c = search rules

pub returns-in-Err-Memory : goal.returns-in-Err-Memory
returns-in-Err-Memory c = tt
