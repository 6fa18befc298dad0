use Rattle.ed_headline.proofs.Kit.{arith, rules, ◌≤◌}
use Rattle.ed_headline.proofs.FromEntry.{goes_on}
use Rattle.ed_answers.proofs.source.run_entered.Goals as goal

pub returns-then-orders_done-from : goal.returns-then-orders_done-from
returns-then-orders_done-from c =
    let few : c.args.entered.orders ≤ c.args.settings.limit =
    omega (arith, c.if-orders_done-from.true, c.orders_done.ensures, c.from.ensures) in
    record {
      is = goes_on c.args.settings c.args.linked.now c.args.entered _ few c.requires.entry c.run_machine.ensures.is;
      size = search rules;
      orders = c.run_machine.ensures.orders;
    }
