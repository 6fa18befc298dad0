use Rattle.ed_page.proofs.Kit.{None, Option, refl, Some, sym, ◌∙◌, ◌≡◌, State, told_outcome}
use Rattle.ed_page.proofs.Written.{picture_nowhere, picture_written}
use Rattle.ed_page.proofs.pictures.show.Goals.{in-Some-machine, in-None}
use Rattle.ed_page.proofs.pictures.show.Goals as goal

not_both : {machine : Option State} {m : State} → machine ≡ Some m → machine ≡ None → ⊥
not_both some none = let both = sym some ∙ none in absurd (cc)

pub returns : goal.returns
returns c =
    let o = told_outcome c.args.answer.now c.args.line.now c.args.status in
    let texts = c.write_texts.ensures c.args.status in
    let r = c.requires in
    rw c.from.ensures
    (elim c.match-machine.branch [
      | in-Some-machine w ↦ rw (w.words-is, w.digits-is, w.registers-is)
          (picture_written o r.low r.found r.words r.digits c.in-Some.is texts w.registers_of.ensures.printed
          w.registers_of.ensures.noted
          (rw w.in-Some-machine.is
          (record { store = w.write_store.ensures; registers = w.registers_of.ensures.registers }))
          (λ none. absurd (not_both w.in-Some-machine.is none)))
      | in-None w ↦ rw (w.words-is, w.digits-is, w.registers-is)
          (picture_written o r.low r.found r.words r.digits c.in-Some.is texts refl refl (rw w.in-None.is tt)
          (λ none. record { words_are = refl; digits_are = refl; registers_are = refl }))
    ])

pub returns-in_default : goal.returns-in_default
returns-in_default c =
    picture_nowhere (told_outcome c.args.answer.now c.args.line.now c.args.status) c.args.machine.now c.in_default.is
    (c.write_texts.ensures c.args.status)
