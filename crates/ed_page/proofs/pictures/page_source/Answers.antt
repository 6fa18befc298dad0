use Rattle.ed_page.proofs.Kit.{rules, Settings, ap, refl, tape, run_of, SourceEnds, run_settings}
use Rattle.ed_headline.specs.Sources.{run_answer}
use Rattle.ed_page.proofs.Goes.{from_start}
use Rattle.ed_page.proofs.GoneOn.{begins_on}
use Rattle.ed_page.proofs.RowCodes.{source_codes}
use Rattle.ed_page.proofs.TapeRows.{each_run_reads_on}
use Rattle.ed_page.proofs.pictures.page_source.Goals as goal

pub draw-requires : goal.draw-requires
draw-requires c = ap (λ (s : Settings). s.post_mortem) c.run_settings-settings.ensures

pub returns-clause-shown : goal.returns-clause-shown
returns-clause-shown c = search rules

pub returns-clause-rows : goal.returns-clause-rows
returns-clause-rows c = each_run_reads_on

pub returns-clause-next : goal.returns-clause-next
returns-clause-next c lines accepted =
    let s = run_settings c.args.small c.args.orders c.args.resumes in
    let text = c.args.text.now in
    begins_on (run_answer s) (SourceEnds s) text _ _ _ _ c.args.orders c.args.resumes (tape lines)
    (run_of s (tape lines))
    (returns-clause-shown c) (source_codes s.size text lines accepted) (from_start s (tape lines))
    (lines, accepted, refl)
