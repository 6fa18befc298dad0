use Rattle.ed_page.proofs.Kit.{rules}
use Rattle.ed_page.proofs.Goes.{going_law}
use Rattle.ed_page.proofs.GoneOn.{next_on}
use Rattle.ed_page.proofs.resume.page_go_on.Goals as goal

pub returns-then-words-ne1024-clause-law : goal.returns-then-words-ne1024-clause-law
returns-then-words-ne1024-clause-law c = going_law

pub returns-in-Ok-clause-next : goal.returns-in-Ok-clause-next
returns-in-Ok-clause-next c first begins way = search (rules, next_on)

pub returns-in-Ok-clause-law : goal.returns-in-Ok-clause-law
returns-in-Ok-clause-law c = going_law

pub returns-in-Err-clause-law : goal.returns-in-Err-clause-law
returns-in-Err-clause-law c = going_law

pub returns-then-words-ne1024-clause-gone : goal.returns-then-words-ne1024-clause-gone
returns-then-words-ne1024-clause-gone c first begins k pictured = search rules

pub returns-in-Ok-clause-gone : goal.returns-in-Ok-clause-gone
returns-in-Ok-clause-gone c first begins k pictured = search rules

pub returns-in-Err-clause-gone : goal.returns-in-Err-clause-gone
returns-in-Err-clause-gone c first begins k pictured = search rules

pub returns-then-words-ne1024-clause-next : goal.returns-then-words-ne1024-clause-next
returns-then-words-ne1024-clause-next c first begins way = way

pub returns-in-Err-clause-next : goal.returns-in-Err-clause-next
returns-in-Err-clause-next c first begins way = way

pub resume-requires : goal.resume-requires
resume-requires c = search rules

pub show-requires : goal.show-requires
show-requires c = search rules
