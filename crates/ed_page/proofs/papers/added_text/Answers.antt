use Rattle.ed_page.proofs.Kit.{◌∙◌}
use Rattle.ed_page.proofs.Copied.{text_added}
use Rattle.ed_page.proofs.papers.added_text.Goals as goal

pub returns : goal.returns
returns c =
    text_added _ _ c.args.before.now _ _ _ c.in_ok-text_of.ensures.text c.printer_after-printer.ensures
    (c.deref.ensures.value ∙ c.in_ok-codes.ensures)
