use Rattle.ed_syntax.proofs.Kit.{[], ap, arith, length, length-append, sym, ◌++◌, ◌<◌, ◌∙◌, ◌∷◌, ◌≡◌, ◌≤◌, list_all}
use Rattle.ed_syntax.proofs.Kit.{Text, is_second, line_text, text_of_program}
use Rattle.ed_writer.specs.Answers.{long_line}
use Rattle.ed_writer.specs.Private.LineTexts.{has_few}
use Rattle.std.proofs.Common.{append-nil}
use Rattle.std.proofs.lemmas.List.{at_drop_all}
use Rattle.ed_writer.proofs.Added.{few_passed, long_found, short_passed, text_added}
use Rattle.ed_writer.proofs.program.lines_text.Goals as goal

pub overflow_sub-len : goal.overflow_sub-len
overflow_sub-len c =
    let two = is_second c.args.version in
    let before = c.loop-line.text.items in
    let line = line_text two c.line-item.result in
    let written : c.push_line.new.text.items ≡ before ++ line = c.in_ok-push_line.ensures.is in
    omega (arith, ap length written, length-append before line)

pub loop-line-preserved : goal.loop-line-preserved
loop-line-preserved c =
    let here = c.loop-line in
    let two = is_second c.args.version in
    let lines = c.args.lines.now in
    let line = c.line-item.result in
    let written : c.push_line.new.text.items ≡ here.text.items ++ line_text two line = c.in_ok-push_line.ensures.is in
    let ended : c.push.new.text.items ≡ c.push_line.new.text.items ++ 10 ∷ [] = c.in_ok-push.ensures in
    let short : length (line_text two line) ≤ 120 =
    omega (arith, ap length written, length-append here.text.items (line_text two line)) in
    record {
      text = rw (ended, written) (text_added two lines here.line-index line here.text.items c.loop-line-test.true
          c.line-item.is ∙ here.invariant.text);
      long = short_passed two lines here.line-index line c.loop-line-test.true c.line-item.is short
          ∙ here.invariant.long;
      few = few_passed two lines here.line-index line c.loop-line-test.true c.line-item.is c.in_ok-push_line.ensures.few
          ∙ here.invariant.few;
    }

pub returns-then-len-start-gt-LINE_BYTES-clause-fault : goal.returns-then-len-start-gt-LINE_BYTES-clause-fault
returns-then-len-start-gt-LINE_BYTES-clause-fault c =
    let here = c.loop-line in
    let two = is_second c.args.version in
    let line = c.line-item.result in
    let written : c.push_line.new.text.items ≡ here.text.items ++ line_text two line = c.in_ok-push_line.ensures.is in
    let long : 120 < length (line_text two line) =
    omega (arith, ap length written, length-append here.text.items (line_text two line)) in
    sym here.invariant.long
    ∙ long_found two c.args.lines.now here.line-index line c.loop-line-test.true c.line-item.is long

pub returns-clause-is : goal.returns-clause-is
returns-clause-is c =
    let two = is_second c.args.version in
    let here = c.loop-line in
    let none = at_drop_all (long_line two) c.args.lines.now here.line-index c.loop-line-test.false in
    let end = at_drop_all (text_of_program two) c.args.lines.now here.line-index c.loop-line-test.false in
    record {
      none_long = sym here.invariant.long ∙ none;
      is = sym (append-nil here.text.items) ∙ ap (λ (t : Text). here.text.items ++ t) (sym end) ∙ here.invariant.text;
    }

pub returns-clause-few : goal.returns-clause-few
returns-clause-few c =
    sym c.loop-line.invariant.few
    ∙ at_drop_all (list_all (has_few (is_second c.args.version))) c.args.lines.now c.loop-line.line-index
    c.loop-line-test.false
