use Rattle.ed_machine.proofs.Names.{drop, List, rules, ◌*◌, ◌^◌, ap, arith, length, sym, ℕ, ◌+◌, ◌<◌, ◌∙◌, ◌∷◌, ◌≡◌}
use Rattle.ed_machine.proofs.Names.{◌≤◌, after, done_at, row_order, written_store, State}
use Rattle.std.proofs.lemmas.List.{at_drop_all, drop_more}
use Rattle.ed_machine.proofs.machine.Machine.take_row.Goals as goal

-- the tape begins with the row that is read
next_row : (c : goal.After-advance) → c.args.self.now.tape
    ≡ c.index.result.now ∷ drop (c.self.inside.row + 1) c.self.inside.tape.items
next_row c =
    let m = c.self.inside in
    let below : m.row < length m.tape.items = omega arith in
    sym (ap (λ (s : State). s.tape) c.self.view_is)
    ∙ drop_more m.tape.items m.row c.index.result.now below
    ∙ ap (λ (row : ℕ). row ∷ drop (m.row + 1) m.tape.items) (sym c.index.ensures)

pub returns-clause-state : goal.returns-clause-state
returns-clause-state c =
    let rows = drop (c.self.inside.row + 1) c.self.inside.tape.items in
    let row = c.index.result.now in
    let s = c.args.self.now in
    let written : c.write.new.self ≡ record s {
      store = written_store c.args.word s row (row * 2 ^ 18);
      tape = rows;
    } = search rules in
    c.advance.ensures ∙ ap (λ (m : State). done_at (after m) m) written
    ∙ sym (ap (λ (xs : List ℕ). (row_order xs c.args.word s).state) (next_row c))

pub returns-clause-turn : goal.returns-clause-turn
returns-clause-turn c =
    sym (ap (λ (xs : List ℕ). (row_order xs c.args.word c.args.self.now).turn) (next_row c))

pub returns-then-self-len-clause-state : goal.returns-then-self-len-clause-state
returns-then-self-len-clause-state c =
    let m = c.self.inside in
    let past : length m.tape.items ≤ m.row = omega arith in
    sym (ap (λ (s : State). (row_order s.tape c.args.word c.args.self.now).state) (sym c.self.view_is)
    ∙ at_drop_all (λ (xs : List ℕ). (row_order xs c.args.word c.args.self.now).state) m.tape.items m.row past)

pub returns-then-self-len-clause-turn : goal.returns-then-self-len-clause-turn
returns-then-self-len-clause-turn c =
    let m = c.self.inside in
    let past : length m.tape.items ≤ m.row = omega arith in
    sym (ap (λ (s : State). (row_order s.tape c.args.word c.args.self.now).turn) (sym c.self.view_is)
    ∙ at_drop_all (λ (xs : List ℕ). (row_order xs c.args.word c.args.self.now).turn) m.tape.items m.row past)
