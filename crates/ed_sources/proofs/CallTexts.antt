-- The lines of the sources of calls.
use Rattle.ed_sources.proofs.Kit.{Line, Ok, list_all, Text, is_line_byte, lines_from, Call, [], ap, false, List, sym}
use Rattle.ed_sources.proofs.Kit.{true, ◌∙◌, ◌≡◌, is_two, program_of, call_text}
use Rattle.ed_sources.specs.CallSources.{call_data, call_pieces}
use Rattle.ed_sources.proofs.FilledLines.{unended, filled_is, filled_lines}
use Rattle.ed_sources.proofs.TextLines.{program_is}

abbrev pub call_lines : Call → List Text
call_lines call = filled_lines (call_pieces call) (call_data call)

-- the program of a call's source is that of its lines
pub call_is : (call : Call) (program : List Line) → unended (call_pieces call) (call_data call) ≡ []
    → list_all (list_all is_line_byte) (call_lines call) ≡ true → is_two (call_lines call) ≡ false
    → lines_from false 1 (call_lines call) ≡ Ok program → program_of (call_text call) ≡ Ok program
call_is call program ended plain one says =
    ap program_of (sym (filled_is (call_pieces call) (call_data call) ended))
    ∙ program_is (call_lines call) program plain one says
