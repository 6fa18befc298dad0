use Rattle.ed_page.proofs.Kit.{rules, lit<, arith}
use Rattle.ed_page.proofs.Outcomes.{program_due}
use Rattle.ed_page.proofs.Written.{found_status, long_shown, low_status, picture_early, picture_shown}
use Rattle.ed_page.proofs.pictures.draw.Goals as goal

pub returns-then-words-ne1024 : goal.returns-then-words-ne1024
returns-then-words-ne1024 c = search (rules, picture_early, program_due)

pub returns-then-text-gt-INPUT_BYTES : goal.returns-then-text-gt-INPUT_BYTES
returns-then-text-gt-INPUT_BYTES c = search (rules, long_shown)

pub returns-in-Ok : goal.returns-in-Ok
returns-in-Ok c = search (rules, picture_shown)

pub show-requires-clause-words : goal.show-requires-clause-words
show-requires-clause-words c = c.if-words-ne1024.false

pub show-requires-clause-digits : goal.show-requires-clause-digits
show-requires-clause-digits c = c.if-digits-ne512.false

pub show-requires-in-Ok-clause-words : goal.show-requires-in-Ok-clause-words
show-requires-in-Ok-clause-words c = c.if-words-ne1024.false

pub show-requires-in-Ok-clause-digits : goal.show-requires-in-Ok-clause-digits
show-requires-in-Ok-clause-digits c = c.if-digits-ne512.false

pub show-requires-clause-low : goal.show-requires-clause-low
show-requires-clause-low c = lit< tt

pub show-requires-clause-found : goal.show-requires-clause-found
show-requires-clause-found c e = omega (arith, e)

pub show-requires-in-Ok-clause-low : goal.show-requires-in-Ok-clause-low
show-requires-in-Ok-clause-low c = low_status c.in-Ok.ensures.0.2

pub show-requires-in-Ok-clause-found : goal.show-requires-in-Ok-clause-found
show-requires-in-Ok-clause-found c = found_status c.in-Ok.ensures.0.2

pub returns-in-Err : goal.returns-in-Err
returns-in-Err c = search rules
