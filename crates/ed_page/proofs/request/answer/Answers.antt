use Rattle.ed_page.proofs.Kit.{rules, arith, ℕ, ◌≤◌}
use Rattle.ed_page.specs.Private.Requests.{answers_to_rows}
use Rattle.ed_page.proofs.Replies.{rows_refused}
use Rattle.ed_page.proofs.request.answer.Goals as goal

within : {a b c : ℕ} → a ≤ b → b ≤ c → a ≤ c
within one two = omega (arith, one, two)

pub returns-in_err-rows-in-SourceRows : goal.returns-in_err-rows-in-SourceRows
returns-in_err-rows-in-SourceRows c = search rules

pub returns-in_err-row_codes-in-SourceRows : goal.returns-in_err-row_codes-in-SourceRows
returns-in_err-row_codes-in-SourceRows c = search rules

pub returns-in_err-linked_of-in-SourceRows : goal.returns-in_err-linked_of-in-SourceRows
returns-in_err-linked_of-in-SourceRows c = search rules

pub returns-in-Punch : goal.returns-in-Punch
returns-in-Punch c = search rules

pub returns-in-Listing : goal.returns-in-Listing
returns-in-Listing c = search rules

pub returns-in_err-rows_of-in-Tape : goal.returns-in_err-rows_of-in-Tape
returns-in_err-rows_of-in-Tape c =
    rw c.in-Tape.is
    (rows_refused (answers_to_rows c.in-Tape.request) c.args.text.now _ _ c.in_err-rows_of-in-Tape.ensures.is
    c.from_residual.ensures)

pub returns-in_ok-rows_of-in-Tape : goal.returns-in_ok-rows_of-in-Tape
returns-in_ok-rows_of-in-Tape c = search rules

pub answer_of_rows-requires : goal.answer_of_rows-requires
answer_of_rows-requires c = rw c.deref.ensures.value (within c.in_ok-rows_of-in-Tape.ensures.few c.requires)

pub returns-in_ok-row_codes-in-SourceRows : goal.returns-in_ok-row_codes-in-SourceRows
returns-in_ok-row_codes-in-SourceRows c = search rules
