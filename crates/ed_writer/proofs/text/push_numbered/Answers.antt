use Rattle.ed_syntax.proofs.Kit.{rules, ◌≡◌, decimal}
use Rattle.ed_writer.proofs.Added.{both_added}
use Rattle.ed_writer.proofs.text.push_numbered.Goals as goal

pub returns : goal.returns
returns c =
    let digits : c.as_bytes.result.now ≡ decimal c.args.number = search rules in
    rw (← digits) (both_added _ c.args.text.now.items c.args.before.now _ _ _ c.push-2.ensures c.in_ok-push.ensures)
