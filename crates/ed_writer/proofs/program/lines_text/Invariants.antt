use Rattle.ed_syntax.proofs.Kit.{drop, ◌++◌, ◌≡◌, list_all, is_second, text_of_program}
use Rattle.ed_writer.specs.Answers.{long_line}
use Rattle.ed_writer.specs.Private.LineTexts.{has_few}
use Rattle.ed_writer.proofs.program.lines_text.Given as goal

-- what remains to be shown for all lines is what remains for those after the ones so far
abbrev pub invariant-loop-line : goal.invariant-loop-line
invariant-loop-line l = record {
  text : l.text.items ++ text_of_program (is_second l.version) (drop l.line-index l.lines)
      ≡ text_of_program (is_second l.version) l.lines;
  long : long_line (is_second l.version) (drop l.line-index l.lines) ≡ long_line (is_second l.version) l.lines;
  few : list_all (has_few (is_second l.version)) (drop l.line-index l.lines)
      ≡ list_all (has_few (is_second l.version)) l.lines;
}
