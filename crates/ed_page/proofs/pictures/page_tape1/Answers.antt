use Rattle.ed_page.proofs.Kit.{rules, Settings, run1_of, ap, false, refl, RowsEnd, run_settings}
use Rattle.ed_tapes.specs.FirstOrders.{tape1_answer}
use Rattle.ed_page.proofs.Goes.{from_start1}
use Rattle.ed_page.proofs.GoneOn.{begins_on}
use Rattle.ed_page.proofs.RowCodes.{read_codes}
use Rattle.ed_page.proofs.TapeRows.{each_run1_reads_on}
use Rattle.ed_page.proofs.pictures.page_tape1.Goals as goal

pub draw-requires : goal.draw-requires
draw-requires c = ap (λ (s : Settings). s.post_mortem) c.run_settings-settings.ensures

pub returns-clause-shown : goal.returns-clause-shown
returns-clause-shown c = search rules

pub returns-clause-rows : goal.returns-clause-rows
returns-clause-rows c = each_run1_reads_on

pub returns-clause-next : goal.returns-clause-next
returns-clause-next c codes is =
    let s = run_settings false c.args.orders c.args.resumes in
    let text = c.args.text.now in
    begins_on (tape1_answer s) (RowsEnd (run1_of s)) text _ _ _ _ c.args.orders c.args.resumes codes (run1_of s codes)
    (returns-clause-shown c) (read_codes text codes is) (from_start1 s codes) (codes, is, refl)
