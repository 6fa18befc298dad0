use Rattle.ed_syntax.proofs.Kit.{rules, true, ◌∷◌, ◌≡◌, is_run_byte}
use Rattle.ed_syntax.proofs.PartLemmas.{quote_taken, open_taken, run_taken}
use Rattle.ed_syntax.proofs.parts.next_part.Goals as goal

pub returns-in-Some-split_quote : goal.returns-in-Some-split_quote
returns-in-Some-split_quote c =
    let here = c.skip_blanks-here in
    let split : here.result.now ≡ 34 ∷ c.in-Some-eq34-default.after.now = search rules in
    quote_taken c.args.line.now here.result.now _ _ _ here.ensures.same here.ensures.shorter split c.in-Some-split_quote.ensures.some

pub returns-in-None-split_quote : goal.returns-in-None-split_quote
returns-in-None-split_quote c = search (rules, open_taken)

pub returns-then-is_run_byte : goal.returns-then-is_run_byte
returns-then-is_run_byte c =
    let here = c.skip_blanks-here in
    let split : here.result.now ≡ c.in-Some.first.now ∷ c.in-Some.after.now = search rules in
    let begins : is_run_byte c.in-Some.first.now ≡ true = search rules in
    run_taken c.args.line.now here.result.now _ _ _ _ here.ensures.same here.ensures.shorter split begins c.split_run.ensures
