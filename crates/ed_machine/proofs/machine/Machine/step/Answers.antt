use Rattle.ed_machine.proofs.Names.{function_of, Kind, ap, Option, refl, Some, sym, ℕ, ◌∙◌, ◌≡◌, kind_of_function}
use Rattle.ed_machine.proofs.Names.{next_word, obey_word, Obeyed, step, State, is_obeyed}
use Rattle.ed_words.specs.declared.order.Order.{Order}
use Rattle.ed_store.specs.Cells.{short_at}
use Rattle.ed_machine.proofs.Counts.{counted_after}
use Rattle.ed_machine.proofs.Keeping.{word_leaves}
use Rattle.ed_machine.proofs.SoundSteps.{sound_after}
use Rattle.ed_machine.proofs.machine.Machine.step.Goals as goal

-- one step, by the word at the counter and its kind
stepped : (s : State) {w f : ℕ} {k : Option Kind} → w ≡ next_word s → f ≡ function_of w → k ≡ kind_of_function f
    → step s ≡ obey_word k w s
unfolding step
stepped s word function kind = rw (kind, function, word) refl

pub obey-requires-clause-kind : goal.obey-requires-clause-kind
obey-requires-clause-kind c =
    sym (ap (λ (o : Order). kind_of_function o.function) c.order-function.ensures.is)
    ∙ sym c.kind_of.ensures.is ∙ c.in-Some.is

pub returns-in-Some-clause-state : goal.returns-in-Some-clause-state
returns-in-Some-clause-state c =
    let word = c.short-word.ensures.is ∙ ap (λ (s : State). short_at s.store s.counter) c.self.view_is in
    let function = ap (λ (o : Order). o.function) c.order-function.ensures.is in
    c.obey.ensures.state
    ∙ sym (ap (λ (o : Obeyed). o.state)
    (stepped c.args.self.now word function (sym c.in-Some.is ∙ c.kind_of.ensures.is)))

pub returns-in-Some-clause-turn : goal.returns-in-Some-clause-turn
returns-in-Some-clause-turn c =
    let word = c.short-word.ensures.is ∙ ap (λ (s : State). short_at s.store s.counter) c.self.view_is in
    let function = ap (λ (o : Order). o.function) c.order-function.ensures.is in
    c.obey.ensures.turn
    ∙ sym (ap (λ (o : Obeyed). o.turn)
    (stepped c.args.self.now word function (sym c.in-Some.is ∙ c.kind_of.ensures.is)))

pub returns-in-Some-clause-blocked : goal.returns-in-Some-clause-blocked
returns-in-Some-clause-blocked c = λ none.
    let leaves = word_leaves (Some c.in-Some.kind) c.short-word.result c.args.self.now in
    c.obey.ensures.state ∙ leaves.blocked (sym (ap is_obeyed c.obey.ensures.turn) ∙ none)

pub returns-in-Some-clause-count : goal.returns-in-Some-clause-count
returns-in-Some-clause-count c =
    rw c.obey.ensures.state (word_leaves (Some c.in-Some.kind) c.short-word.result c.args.self.now).follows.soon

pub returns-in-Some-clause-sound : goal.returns-in-Some-clause-sound
returns-in-Some-clause-sound c = sound_after

pub returns-in-None-clause-sound : goal.returns-in-None-clause-sound
returns-in-None-clause-sound c = sound_after

pub returns-in-Some-clause-counted : goal.returns-in-Some-clause-counted
returns-in-Some-clause-counted c = counted_after

pub returns-in-None-clause-counted : goal.returns-in-None-clause-counted
returns-in-None-clause-counted c = counted_after
