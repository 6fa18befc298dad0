use Rattle.ed_page.proofs.PaperTails.{paper_law}
use Rattle.ed_page.proofs.papers.page_paper.Goals as goal

pub returns-in-Ok-clause-law : goal.returns-in-Ok-clause-law
returns-in-Ok-clause-law c = paper_law

pub returns-in-Err-clause-law : goal.returns-in-Err-clause-law
returns-in-Err-clause-law c = paper_law

pub returns-in-Ok-2-clause-law : goal.returns-in-Ok-2-clause-law
returns-in-Ok-2-clause-law c = paper_law
