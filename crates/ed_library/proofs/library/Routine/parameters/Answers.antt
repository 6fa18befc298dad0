use Rattle.std.proofs.Common.{◌∙◌, ap, append-nil, arith, refl, sym, List, ℕ, [], ◌∷◌, ◌++◌}
use Rattle.std.proofs.lemmas.List.{at_drop_all}
use Rattle.ed_notation.proofs.Parts.{one_more}
use Rattle.ed_library.specs.Entries.{entry}
use Rattle.ed_library.proofs.Rows.{letter_code}
use Rattle.ed_library.proofs.library.Routine.parameters.Goals as goal

pub loop-letter-preserved : goal.loop-letter-preserved
loop-letter-preserved c =
    let l = c.loop-letter in
    one_more (λ (xs : List ℕ). xs) c.table.result.parameters.now l.letter-index 0 l.letters.items
    (c.unwrap.result ∷ []) _ c.loop-letter-test.true (rw c.unwrap.ensures at c.new.ensures.some) refl
    c.push.ensures.items l.invariant

pub returns : goal.returns
returns c =
    let l = c.loop-letter in
    let done = l.letters.items in
    let listed = c.table.result.parameters.now in
    sym (append-nil done)
    ∙ ap (λ (xs : List ℕ). done ++ xs)
    (sym (at_drop_all (λ (xs : List ℕ). xs) listed l.letter-index c.loop-letter-test.false))
    ∙ l.invariant ∙ c.table.ensures.parameters ∙ ap (λ (r : ℕ). (entry r).parameters) c.self.view_is

pub unwrap-requires : goal.unwrap-requires
unwrap-requires c =
    let code = letter_code c.table.result.parameters.now c.self.inside.index c.loop-letter.letter-index
    c.table.ensures.parameters c.self.invariant c.loop-letter-test.true in
    grind (arith, code)
