use Rattle.ed_maths.proofs.Kit.{rules, [], ap, ℕ, ◌-◌, ◌/◌, ◌∙◌, ◌≡◌, locations, short_at, State, state_after}
use Rattle.ed_maths.proofs.Kit.{AreObeyed-leads, Leads, divide_orders, dividend}
use Rattle.ed_maths.proofs.DivideCall.{CallsDivide, last, leads_to, HasDivided-last}
use Rattle.ed_maths.proofs.division.divide_integers.Goals as goal

module _ (c : goal.After-obey_next) where
  abbrev s : State
  s = c.args.machine.now

  abbrev quotient : ℕ
  quotient = dividend c.args.high c.args.low s / short_at s.store c.args.by

  -- the number of orders that the call computes
  count : 212 - c.from-orders.result ≡ divide_orders quotient
  count = search rules

  called : CallsDivide c.args.base c.args.high c.args.low c.args.by (locations s.size) s
  called = search rules

  leads : Leads (divide_orders quotient) s [] (last called)
  leads = leads_to called

  state_is : c.obey_next.new.self ≡ state_after (divide_orders quotient) s
  state_is = c.obey_next.ensures.state ∙ ap (λ k. state_after k s) count

pub returns-clause-orders : goal.returns-clause-orders
returns-clause-orders c = count c

pub returns-clause-after : goal.returns-clause-after
returns-clause-after c = rw (count c) (record { state_is = state_is c; free = AreObeyed-leads (leads c) })

pub returns-clause-divided : goal.returns-clause-divided
returns-clause-divided c = HasDivided-last (called c) c.obey_next.new.self (state_is c ∙ (leads c).state_is)
