use Rattle.ed_page.proofs.Kit.{rules, lit<, arith, answers_to, IsReplied}
use Rattle.ed_page.proofs.Replies.{refused_reply}
use Rattle.ed_page.proofs.Written.{reply_written}
use Rattle.ed_page.proofs.request.write_answer.Goals.{in-Ok, in-Err-Refused}
use Rattle.ed_page.proofs.request.write_answer.Goals as goal

pub returns-then-text-gt-INPUT_BYTES : goal.returns-then-text-gt-INPUT_BYTES
returns-then-text-gt-INPUT_BYTES c = search rules

pub write_reply-requires-clause-low : goal.write_reply-requires-clause-low
write_reply-requires-clause-low c = lit< tt

pub write_reply-requires-clause-found : goal.write_reply-requires-clause-found
write_reply-requires-clause-found c e = omega (arith, e)

pub returns-in-Err-Memory : goal.returns-in-Err-Memory
returns-in-Err-Memory c = search rules

pub returns : goal.returns
returns c =
    let answers = answers_to c.args.request in
    let due : IsReplied answers c.args.text.now c.match-answer.reply = elim c.match-answer.branch [
      | in-Ok w ↦ rw w.reply-is w.in-Ok.ensures
      | in-Err-Refused w ↦
          rw w.reply-is (refused_reply answers c.args.text.now w.in-Err-Refused.field-0-is w.in-Err-Refused.ensures)
    ] in
    reply_written answers c.args.text.now c.if-text-gt-INPUT_BYTES.false due c.deref.ensures.value
    c.deref-2.ensures.value c.write_reply-2.ensures

pub write_reply-requires-2-clause-low : goal.write_reply-requires-2-clause-low
write_reply-requires-2-clause-low c = search rules

pub write_reply-requires-2-clause-found : goal.write_reply-requires-2-clause-found
write_reply-requires-2-clause-found c = search rules
