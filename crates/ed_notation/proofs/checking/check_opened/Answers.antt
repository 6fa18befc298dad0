use Rattle.ed_notation.proofs.Kit.{Bool, drop, length, List, ap, ◌∙◌}
use Rattle.std.proofs.lemmas.Result.{err_from_is_err_and}
use Rattle.ed_notation.proofs.Answered.{accepted, orders-bounded, AnswersCheck-refused, take-whole}
use Rattle.ed_notation.proofs.checking.check_opened.Goals as goal

pub returns-clause-answers : goal.returns-clause-answers
returns-clause-answers c =
    let m = c.read_rows.new.placed in
    let v = c.in_ok-placed.placed in
    let t = take-whole m (drop (length m) v.items) v.len (c.read_rows.auto.placed ∙ c.deref_mut.ensures.len) in
    rw (c.new.ensures, t, ← c.in_ok-contents.ensures) (accepted c.in_ok-reached.ensures)

pub returns-clause-bound : goal.returns-clause-bound
returns-clause-bound c = rw c.new.ensures (orders-bounded c.in_ok-reached.ensures)

pub returns-in_err-reached-clause-answers : goal.returns-in_err-reached-clause-answers
returns-in_err-reached-clause-answers c =
    let r = c.from_residual-in_err-reached in
    let p = err_from_is_err_and r.result r.ensures.1 in
    let fault = c.in_err-reached.field-0.0 in
    rw (p.1, p.2) (AnswersCheck-refused c.args.size c.args.directive c.args.base c.args.rows.now fault
    (c.read_rows.new.contents.words, c.read_rows.new.placed) c.in_ok-contents.ensures c.in_err-reached.ensures)

pub returns-in_err-reached-clause-bound : goal.returns-in_err-reached-clause-bound
returns-in_err-reached-clause-bound c =
    let r = c.from_residual-in_err-reached in
    rw (err_from_is_err_and r.result r.ensures.1).1 tt

pub returns-in_err-contents-clause-answers : goal.returns-in_err-contents-clause-answers
returns-in_err-contents-clause-answers c =
    let p = err_from_is_err_and c.from_residual.result c.from_residual.ensures.1 in rw (p.1, p.2) tt

pub returns-in_err-contents-clause-bound : goal.returns-in_err-contents-clause-bound
returns-in_err-contents-clause-bound c =
    rw (err_from_is_err_and c.from_residual.result c.from_residual.ensures.1).1 tt

pub returns-in_err-placed-clause-answers : goal.returns-in_err-placed-clause-answers
returns-in_err-placed-clause-answers c =
    let r = c.from_residual-in_err-placed in
    let p = err_from_is_err_and r.result r.ensures.1 in rw (p.1, p.2) tt

pub returns-in_err-placed-clause-bound : goal.returns-in_err-placed-clause-bound
returns-in_err-placed-clause-bound c =
    let r = c.from_residual-in_err-placed in
    rw (err_from_is_err_and r.result r.ensures.1).1 tt

pub read_rows-requires-clause-directive : goal.read_rows-requires-clause-directive
read_rows-requires-clause-directive c = c.requires.directive

pub read_rows-requires-clause-base : goal.read_rows-requires-clause-base
read_rows-requires-clause-base c = c.requires.base

pub read_rows-requires-clause-rows : goal.read_rows-requires-clause-rows
read_rows-requires-clause-rows c = c.requires.rows

pub new-requires : goal.new-requires
new-requires c =
    let m = c.read_rows.new.placed in
    let v = c.in_ok-placed.placed in
    let same = c.read_rows.auto.placed ∙ c.deref_mut.ensures.len in
    ap (λ (p : List Bool). length p) (take-whole m (drop (length m) v.items) v.len same) ∙ same
    ∙ c.in_ok-placed.ensures.len
