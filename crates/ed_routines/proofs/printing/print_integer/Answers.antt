use Rattle.ed_routines.proofs.Kit.{short_at, AreObeyed-leads, Leads, ap, arith, subst, ℕ, ◌∙◌, ◌∷◌, ◌≡◌, locations}
use Rattle.ed_routines.proofs.Kit.{State, state_after, IsRun, print, with_h, digits, print_orders}
use Rattle.ed_routines.proofs.Called.{IsCalled, IsCalled-loaded}
use Rattle.ed_routines.proofs.Digits.{digits_law, few_digits}
use Rattle.ed_routines.proofs.PrintCall.{last, leads_to, returned, keeps}
use Rattle.ed_routines.proofs.Runs.{Ran, Ran-leads}
use Rattle.ed_routines.proofs.printing.print_integer.Goals as goal

module _ (c : goal.After-run) where
  abbrev s : State
  s = c.args.machine.now

  abbrev number : ℕ
  number = short_at s.store c.args.h

  -- the number of orders that the call computes
  count : c.orders_to_print-orders.result ≡ print_orders number
  count = c.orders_to_print-orders.ensures.is ∙ ap print_orders (c.value.ensures.is ∙ c.word.ensures.is)

  is_called : IsCalled print (with_h c.args.h) c.args.base c.args.h (locations s.size) s
  is_called = IsCalled-loaded c.word.ensures.store.words_are c.requires.stands c.requires.outside

  -- the routine's orders, and that the run obeys them
  abbrev end : State
  end = last is_called c.requires.small

  leads : Leads (print_orders number) s (11 ∷ digits number) end
  leads = leads_to is_called c.requires.small

  left : Ran (state_after (print_orders number) s) c.run.new.machine c.args.paper.now c.run.new.paper
      (11 ∷ digits number)
  left =
      let room = c.requires.room in
      let few = few_digits number in
      Ran-leads leads (omega arith)
      (subst (λ k. IsRun k 0 s c.args.paper.now c.run.result c.run.new.machine c.run.new.paper) count
      c.run.ensures.ends)

  there : c.run.new.machine ≡ end
  there = left.state_is ∙ leads.state_is

pub returns-clause-after : goal.returns-clause-after
returns-clause-after c = rw (count c) (record { state_is = (left c).state_is; free = AreObeyed-leads (leads c) })

pub returns-clause-returned : goal.returns-clause-returned
returns-clause-returned c = rw (count c) (returned (is_called c) c.requires.small c.run.new.machine (there c))

pub returns-clause-words : goal.returns-clause-words
returns-clause-words c = keeps (is_called c) c.requires.small c.run.new.machine (there c)

pub returns-clause-printed : goal.returns-clause-printed
returns-clause-printed c = (left c).sheet_is

pub returns-clause-law : goal.returns-clause-law
returns-clause-law c = digits_law
