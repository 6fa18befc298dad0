use Rattle.ed_syntax.proofs.Kit.{rules, ◌≡◌}
use Rattle.ed_writer.proofs.Added.{both_added}
use Rattle.ed_writer.proofs.text.push_named.Goals as goal

pub returns : goal.returns
returns c =
    let name : c.as_bytes.result.now ≡ c.args.name.now = search rules in
    rw (← name) (both_added _ c.args.text.now.items c.args.before.now _ _ _ c.push-2.ensures c.in_ok-push.ensures)
