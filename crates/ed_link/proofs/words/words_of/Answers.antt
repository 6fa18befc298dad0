use Rattle.ed_link.proofs.Kit.{append-nil, Global, Vec, [], ap, refl, sym, ◌∙◌, ◌∷◌, one_more, words_from, Placed}
use Rattle.ed_link.proofs.Steps.{all_given}
use Rattle.ed_link.proofs.words.words_of.Goals.{in-Some+in_ok-push, in_default}
use Rattle.ed_link.proofs.words.words_of.Goals as goal

pub loop-place-preserved : goal.loop-place-preserved
loop-place-preserved c =
    let done = c.loop-place.words.items in
    let place = c.loop-place.place in elim c.match-word.branch [
      | in-Some+in_ok-push w ↦ one_more (words_from place) c.args.table.now place c.index-table-place.result done
          (record { place = place; word = w.in-Some.word } ∷ []) _ c.loop-place-test.true
          (sym w.in-Some.is ∙ c.index-table-place.is) refl
          (ap (λ (v : Vec Placed Global). v.items) w.words-is ∙ w.in_ok-push.ensures.items) c.loop-place.invariant
      | in_default w ↦ one_more (words_from place) c.args.table.now place c.index-table-place.result done [] _
          c.loop-place-test.true (sym w.in_default.is ∙ c.index-table-place.is) refl
          (ap (λ (v : Vec Placed Global). v.items) w.words-is ∙ sym (append-nil done)) c.loop-place.invariant
    ]

pub returns : goal.returns
returns c =
    all_given (words_from c.loop-place.place) c.args.table.now c.loop-place.place c.loop-place.words.items
    c.loop-place-test.false refl c.loop-place.invariant
