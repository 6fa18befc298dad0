use Rattle.ed_report.proofs.Struck.{one_paper}
use Rattle.ed_report.proofs.paper.paper_text.Goals as goal

pub returns : goal.returns
returns c = one_paper c.args.codes.now _ c.new-printer.ensures c.in_ok-text_of.ensures.text
