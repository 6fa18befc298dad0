use Rattle.ed_routines.proofs.Kit.{AreObeyed-leads, Leads, [], arith, List, ℕ, ◌∙◌, ◌∷◌, ◌≡◌, locations, State}
use Rattle.ed_routines.proofs.Kit.{state_after, newline, IsLoadedAt}
use Rattle.ed_routines.proofs.Called.{IsWithin}
use Rattle.ed_routines.proofs.NewLine.{last, leads_to, returned, keeps}
use Rattle.ed_routines.proofs.Runs.{Ran, Ran-leads}
use Rattle.ed_routines.proofs.printing.new_line.Goals as goal

module _ (c : goal.After-run) where
  abbrev s : State
  s = c.args.machine.now

  abbrev parameters : List ℕ
  parameters = c.requires.stands.0

  stands : IsLoadedAt newline parameters c.args.base s
  stands = c.requires.stands.1

  within : IsWithin 7 c.args.base 0 (locations s.size) s
  within = omega arith

  -- the routine's orders, and that the run obeys them
  abbrev end : State
  end = last c.word.ensures.store.words_are stands within

  leads : Leads 5 s (18 ∷ 24 ∷ []) end
  leads = leads_to c.word.ensures.store.words_are stands within

  left : Ran (state_after 5 s) c.run.new.machine c.args.paper.now c.run.new.paper (18 ∷ 24 ∷ [])
  left = Ran-leads leads c.requires.room c.run.ensures.ends

  there : c.run.new.machine ≡ end
  there = left.state_is ∙ leads.state_is

pub returns-clause-after : goal.returns-clause-after
returns-clause-after c = record { state_is = (left c).state_is; free = AreObeyed-leads (leads c) }

pub returns-clause-returned : goal.returns-clause-returned
returns-clause-returned c =
    returned c.word.ensures.store.words_are (stands c) (within c) c.run.new.machine (there c)

pub returns-clause-words : goal.returns-clause-words
returns-clause-words c = keeps c.word.ensures.store.words_are (stands c) (within c) c.run.new.machine (there c)

pub returns-clause-printed : goal.returns-clause-printed
returns-clause-printed c = (left c).sheet_is
