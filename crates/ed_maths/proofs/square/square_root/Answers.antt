use Rattle.ed_maths.proofs.Kit.{rules, [], ap, subst, sym, ℕ, ◌*◌, ◌+◌, ◌∙◌, ◌≡◌, locations, short_at, State}
use Rattle.ed_maths.proofs.Kit.{state_after, AreObeyed-leads, Leads, IsRoot, root_orders}
use Rattle.ed_maths.proofs.RootCall.{CallsRoot, last, leads_to, root_is, returned, keeps}
use Rattle.ed_maths.proofs.square.square_root.Goals as goal

module _ (c : goal.After-obey_next) where
  abbrev s : State
  s = c.args.machine.now

  -- the root and the number of orders that the call computes
  abbrev r : ℕ
  r = c.root_of.result

  is_root : IsRoot (short_at s.store c.args.source) r
  is_root = subst (λ n. IsRoot n r) (c.value.ensures.is ∙ c.word.ensures.is) c.root_of.ensures.is

  count : 14 + 8 * c.from.result ≡ root_orders r
  count = ap (λ x. 14 + 8 * x) c.from.ensures

  called : CallsRoot c.args.base c.args.source c.args.target (locations s.size) r s
  called = search rules

  leads : Leads (root_orders r) s [] (last called)
  leads = leads_to called

  state_is : c.obey_next.new.self ≡ state_after (root_orders r) s
  state_is = c.obey_next.ensures.state ∙ ap (λ k. state_after k s) count

  there : c.obey_next.new.self ≡ last called
  there = state_is ∙ leads.state_is

  target_is : short_at c.obey_next.new.self.store c.args.target ≡ r
  target_is = root_is called c.obey_next.new.self there

pub returns-clause-root : goal.returns-clause-root
returns-clause-root c = subst (λ x. IsRoot (short_at (s c).store c.args.source) x) (sym (target_is c)) (is_root c)

pub returns-clause-orders : goal.returns-clause-orders
returns-clause-orders c = count c ∙ ap root_orders (sym (target_is c))

pub returns-clause-after : goal.returns-clause-after
returns-clause-after c = rw (count c) (record { state_is = state_is c; free = AreObeyed-leads (leads c) })

pub returns-clause-returned : goal.returns-clause-returned
returns-clause-returned c = rw (count c) (returned (called c) c.obey_next.new.self (there c))

pub returns-clause-words : goal.returns-clause-words
returns-clause-words c = keeps (called c) c.obey_next.new.self (there c)
