use Rattle.ed_page.proofs.Kit.{told_outcome}
use Rattle.ed_page.proofs.Written.{told_nowhere, told_written}
use Rattle.ed_page.proofs.reply.write_reply.Goals as goal

pub returns-in-Some : goal.returns-in-Some
returns-in-Some c =
    rw c.from.ensures
    (told_written (told_outcome c.args.answer.now c.args.line.now c.args.status) c.requires.low c.requires.found
    c.in-Some.is (c.write_texts.ensures c.args.status))

pub returns-in-None : goal.returns-in-None
returns-in-None c =
    told_nowhere (told_outcome c.args.answer.now c.args.line.now c.args.status) c.in-None.is
    (c.write_texts.ensures c.args.status)
