use Rattle.ed_routines.proofs.Kit.{AreObeyed-leads, Leads, [], ap, drop, get_or, length, List, refl, rules, subst, sym}
use Rattle.ed_routines.proofs.Kit.{ℕ, ◌*◌, ◌+◌, ◌<◌, ◌∙◌, ◌∷◌, ◌≡◌, locations, State, state_after, read, with_h}
use Rattle.ed_routines.proofs.Kit.{after_digits, digit_rows}
use Rattle.ed_routines.specs.Returns.{ReadLeaves, read_by}
use Rattle.ed_routines.proofs.Called.{IsCalled, IsCalled-loaded}
use Rattle.ed_routines.proofs.ReadCall.{no_ending, has_ending, last, leads_to, has_read, keeps, waiting, leads_to_end}
use Rattle.ed_routines.proofs.ReadCall.{waits, keeps_waiting}
use Rattle.ed_routines.proofs.reading.read_integer.Goals as goal

-- the tape that ends
module _ (c : goal.After-obey_next) where
  abbrev s : State
  s = c.args.machine.now

  is_called : IsCalled read (with_h c.args.h) c.args.base c.args.h (locations s.size) s
  is_called = IsCalled-loaded c.word.ensures.store.words_are c.requires.stands c.requires.outside

  count : c.count_digits-digits.result ≡ length (digit_rows s.tape)
  count = c.count_digits-digits.ensures.is ∙ ap (λ x. length (digit_rows x)) c.rows_left-rows.ensures

  end : after_digits s.tape ≡ []
  end = no_ending s.tape (sym count ∙ c.if-digits-rows.true ∙ ap length c.rows_left-rows.ensures)

  leads : Leads (3 + 13 * length (digit_rows s.tape)) s [] (waiting is_called end)
  leads = leads_to_end is_called end

  state_is : c.obey_next.new.self ≡ state_after (3 + 13 * length (digit_rows s.tape)) s
  state_is = c.obey_next.ensures.state ∙ ap (λ k. state_after (3 + 13 * k) s) count

pub returns-then-digits-rows-clause-back : goal.returns-then-digits-rows-clause-back
returns-then-digits-rows-clause-back c = rw (end c, count c) refl

pub returns-then-digits-rows-clause-after : goal.returns-then-digits-rows-clause-after
returns-then-digits-rows-clause-after c = rw (count c)
    (record { state_is = state_is c; free = AreObeyed-leads (leads c) })

pub returns-then-digits-rows-clause-words : goal.returns-then-digits-rows-clause-words
returns-then-digits-rows-clause-words c =
    keeps_waiting (is_called c) (end c) c.obey_next.new.self (state_is c ∙ (leads c).state_is)

pub returns-then-digits-rows-clause-leaves : goal.returns-then-digits-rows-clause-leaves
returns-then-digits-rows-clause-leaves c =
    subst (λ rows. ReadLeaves rows c.args.base c.args.h (s c) c.obey_next.new.self) (sym (end c))
    (waits (is_called c) (end c) c.obey_next.new.self (state_is c ∙ (leads c).state_is))

-- the tape with an ending row
module _ (c : goal.After-obey_next-else-digits-rows) where
  abbrev old : State
  old = c.args.machine.now

  called_there : IsCalled read (with_h c.args.h) c.args.base c.args.h (locations old.size) old
  called_there = IsCalled-loaded c.word.ensures.store.words_are c.requires.stands c.requires.outside

  digits : c.count_digits-digits.result ≡ length (digit_rows old.tape)
  digits = c.count_digits-digits.ensures.is ∙ ap (λ x. length (digit_rows x)) c.rows_left-rows.ensures

  abbrev ending : ℕ
  ending = get_or old.tape (length (digit_rows old.tape)) 0

  abbrev rest : List ℕ
  rest = drop 1 (after_digits old.tape)

  behind : after_digits old.tape ≡ ending ∷ rest
  behind = has_ending old.tape (λ e. c.if-digits-rows.false (digits ∙ e ∙ ap length (sym c.rows_left-rows.ensures)))

  code : ending < 32
  code = search rules

  leads_back : Leads (11 + 13 * length (digit_rows old.tape)) old [] (last called_there behind code)
  leads_back = leads_to called_there behind code

  state_there : c.obey_next-else-digits-rows.new.self ≡ state_after (11 + 13 * length (digit_rows old.tape)) old
  state_there = c.obey_next-else-digits-rows.ensures.state ∙ ap (λ k. state_after (11 + 13 * k) old) digits

pub returns-else-digits-rows-clause-back : goal.returns-else-digits-rows-clause-back
returns-else-digits-rows-clause-back c = let e = sym (behind c)
    in λ i. read_by (e i) (digits c i) (c.return_address-at.ensures i)

pub returns-else-digits-rows-clause-after : goal.returns-else-digits-rows-clause-after
returns-else-digits-rows-clause-after c = search (rules, digits, state_is, state_there, AreObeyed-leads, leads_back)

pub returns-else-digits-rows-clause-words : goal.returns-else-digits-rows-clause-words
returns-else-digits-rows-clause-words c =
    keeps (called_there c) (behind c) (code c) c.obey_next-else-digits-rows.new.self
    (state_there c ∙ (leads_back c).state_is)

pub returns-else-digits-rows-clause-leaves : goal.returns-else-digits-rows-clause-leaves
returns-else-digits-rows-clause-leaves c =
    subst (λ rows. ReadLeaves rows c.args.base c.args.h (old c) c.obey_next-else-digits-rows.new.self)
    (sym (behind c))
    (has_read (called_there c) (behind c) (code c) c.obey_next-else-digits-rows.new.self
    (state_there c ∙ (leads_back c).state_is))
