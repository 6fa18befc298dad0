use Rattle.ed_syntax.proofs.Kit.{ap, sym, ◌∙◌}
use Rattle.ed_writer.specs.Answers.{has_version_place}
use Rattle.ed_writer.proofs.Texts.{IsProgram-unsaid, IfErr-unwritten, written_says}
use Rattle.ed_writer.proofs.program.text_of_program.Goals as goal

pub returns-then-not-has_version_place-clause-none : goal.returns-then-not-has_version_place-clause-none
returns-then-not-has_version_place-clause-none c =
    rw (← c.of-version.ensures) (IsProgram-unsaid _ _
    (sym (c.has_version_place.ensures ∙ ap (has_version_place _) c.deref.ensures.value)
    ∙ c.if-not-has_version_place.true))

pub returns-clause-says : goal.returns-clause-says
returns-clause-says c =
    let p = c.args.program.now in
    let formed = rw (← c.of-version.ensures) at p.formed in
    rw (← c.of-version.ensures) (written_says _ _ _ c.lines_text.result c.deref-2.ensures.value p.numbered p.few formed
    (sym (c.has_version_place.ensures ∙ ap (has_version_place _) c.deref.ensures.value)
    ∙ c.if-not-has_version_place.false)
    c.lines_text.ensures.is
    c.lines_text.ensures.few)

pub returns-clause-none : goal.returns-clause-none
returns-clause-none c =
    rw (← c.of-version.ensures) (IfErr-unwritten _ _ _ c.lines_text.result c.deref-2.ensures.value
    c.lines_text.ensures.fault)
