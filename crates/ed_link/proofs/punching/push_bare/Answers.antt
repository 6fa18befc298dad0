use Rattle.ed_link.proofs.Kit.{ap, Some, sym, ◌∙◌, ◌≤◌, entered_place}
use Rattle.std.proofs.lemmas.Result.{on_ok_weaker}
use Rattle.ed_link.specs.FaultTests.{has_words}
use Rattle.ed_link.proofs.Steps.{entered, entry_fits, use_base}
use Rattle.ed_link.proofs.punching.push_bare.Goals as goal

pub order_item-requires : goal.order_item-requires
order_item-requires c =
    c.requires.base (ap has_words (c.in-Some.is ∙ ap Some c.in-Order.is))

pub returns-in-Order-clause-items : goal.returns-in-Order-clause-items
returns-in-Order-clause-items c =
    rw (c.in-Some.is, c.in-Order.is, sym c.order_item.ensures) c.push.ensures

pub returns-in-Long-clause-items : goal.returns-in-Long-clause-items
returns-in-Long-clause-items c =
    rw (c.in-Some.is, c.in-Long.is) c.push_long.ensures

pub entry_of-requires : goal.entry_of-requires
entry_of-requires c =
    let fits : entered_place c.args.symbols.now c.args.statement.now 0 ≤ 32767 =
    entry_fits c.args.symbols.now c.args.counter c.args.statement.now c.requires.fits in
    rw (c.in-Some.is, c.in-Enter.is) at fits

pub push_use-requires : goal.push_use-requires
push_use-requires c =
    use_base c.args.symbols.now c.args.counter (c.in-Some.is ∙ ap Some c.in-Fetch.is) c.requires.fits c.even.ensures.is

pub returns-in_ok-push-in-Enter-clause-items : goal.returns-in_ok-push-in-Enter-clause-items
returns-in_ok-push-in-Enter-clause-items c =
    rw (c.in-Some.is, c.in-Enter.is)
    (on_ok_weaker c.push-in-Enter-2.result
    (λ second. entered c.args.items.now.items c.in_ok-push-in-Enter.ensures second c.control.ensures c.entry_of.ensures.is
    c.numbered.ensures)
    c.push-in-Enter-2.ensures)

pub returns-in-Text-clause-items : goal.returns-in-Text-clause-items
returns-in-Text-clause-items c = rw (c.in-Some.is, c.in-Text.is, sym c.deref.ensures.0) c.push_text.ensures

pub returns-in-Order-clause-few : goal.returns-in-Order-clause-few
returns-in-Order-clause-few c =
    rw (c.in-Some.is, c.in-Order.is) (on_ok_weaker c.push.result (λ e. tt) c.push.ensures)

pub returns-in-Number-clause-few : goal.returns-in-Number-clause-few
returns-in-Number-clause-few c =
    rw (c.in-Some.is, c.in-Number.is) (on_ok_weaker c.push-in-Number.result (λ e. tt) c.push-in-Number.ensures)

pub returns-in-Long-clause-few : goal.returns-in-Long-clause-few
returns-in-Long-clause-few c =
    rw (c.in-Some.is, c.in-Long.is) (on_ok_weaker c.push_long.result (λ e. tt) c.push_long.ensures)

pub returns-in-Fetch-clause-few : goal.returns-in-Fetch-clause-few
returns-in-Fetch-clause-few c = rw (c.in-Some.is, c.in-Fetch.is) c.push_use.ensures.few

pub returns-in-Fetch-clause-items : goal.returns-in-Fetch-clause-items
returns-in-Fetch-clause-items c =
    rw (c.in-Some.is, c.in-Fetch.is, sym c.even.ensures.is, sym c.deref-in-Fetch.ensures.0) c.push_use.ensures.items
