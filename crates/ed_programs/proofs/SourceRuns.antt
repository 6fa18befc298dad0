-- The outcome of a source whose program reaches its stop, as the answer of the command `run`.
use Rattle.ed_programs.proofs.Kit.{rules, Size, Full, Small, Settings, Line, [], ap, arith, Bool, length, List, nat_le}
use Rattle.ed_programs.proofs.Kit.{None, Ok, Option, subst, true, ℕ, ◌+◌, ◌≡◌, ◌≤◌, and_parts, leb-true, Text, paper}
use Rattle.ed_programs.proofs.Kit.{is_two, program_of, fault, ReachesStop, entry_state, AnswersFromEntry, run_outcome}
use Rattle.ed_programs.proofs.Kit.{read_is_accepted, accepted_is, each_answer_is_from_entry, filled_text, text_of_lines}
use Rattle.ed_programs.proofs.Kit.{stopped_outcome, ◌&&◌, OfSource, SourceRuns, Marked}
use Rattle.ed_lines.specs.declared.fault.SourceFault.{SourceFault}
use Rattle.ed_sources.proofs.FilledLines.{unended, filled_is, filled_lines}
use Rattle.ed_programs.proofs.Answered.{are_short, is_due}
use Rattle.ed_programs.proofs.SourceLines.{are_read, lines_said, said_fine, source_read, source_said, texts_said}

-- a source that is read as these lines, has no fault and reaches its stop
pub source_runs : (s : Settings) (texts : List Text) {lines : List Line} {k at : ℕ} {printed : List ℕ}
    → are_short texts ≡ true → length texts ≤ 2000 → program_of (text_of_lines texts) ≡ Ok lines
    → fault s.size lines ≡ None → ReachesStop k (entry_state s.size lines) printed at → length printed ≤ 1000000
    → SourceRuns s (text_of_lines texts) (k + 1) at (paper printed)
source_runs s texts {lines} short small reads faultless stops few =
    let source = text_of_lines texts in
    let accepted = read_is_accepted s.size source lines reads faultless in
    let entry : AnswersFromEntry s lines = each_answer_is_from_entry s source lines accepted in
    record {
      lines = lines;
      accepted = accepted;
      from_entry = entry;
      outcome = λ none plain fits. is_due s texts _ short small (
          subst (OfSource s.size (run_outcome s) source) (stopped_outcome s entry stops few none plain fits)
          (accepted_is s.size (run_outcome s) source lines accepted)
          );
    }

-- the lines of a filled source
abbrev pub lines_of_pieces : (two : Bool) → List Text → List Text → List (Marked two) → List Line
lines_of_pieces two pieces ds marks = lines_said two 1 (filled_lines pieces ds) marks

-- what is asked of it, by computation: its text ends with its last line, its version is this one, and each of its lines
-- is read or marked with what it says
abbrev pub Read : Type 0
Read = Text × (Bool × (Bool × List Text))

abbrev pub read_of : (two : Bool) → List Text → List Text → List (Marked two) → Read
read_of two pieces ds marks =
    let texts = filled_lines pieces ds in
    let fits = nat_le (length texts) 2000 && are_read two 1 texts marks in
    (unended pieces ds, (is_two texts, (fits, texts_said 1 texts marks)))

abbrev pub wanted : Bool → List Text → List Text → Read
wanted two pieces ds = ([], (two, (true, filled_lines pieces ds)))

-- such a source that has no fault and reaches its stop, by what it prints and in how many orders
pub read_runs : (s : Settings) (two : Bool) (pieces ds : List Text) (marks : List (Marked two)) {k orders at : ℕ}
    {printed : List ℕ} {text : Text} → read_of two pieces ds marks ≡ wanted two pieces ds
    → fault s.size (lines_of_pieces two pieces ds marks) ≡ None
    → ReachesStop k (entry_state s.size (lines_of_pieces two pieces ds marks)) printed at → length printed ≤ 1000000
    → k + 1 ≡ orders → paper printed ≡ text → SourceRuns s (filled_text pieces ds) orders at text
read_runs s two pieces ds marks {k} {orders} {at} {printed} {text} o faultless stops few count shown =
    let texts : List Text = filled_lines pieces ds in
    let p = and_parts (nat_le (length texts) 2000) (are_read two 1 texts marks) (ap (λ (t : Read). t.1.1.0) o) in
    let small : length texts ≤ 2000 = leb-true (length texts) 2000 p.0 in
    let said = source_said two texts marks p.1 (ap (λ (t : Read). t.1.1.1) o) in
    let runs : SourceRuns s (text_of_lines texts) (k + 1) at (paper printed) =
    source_runs s texts (said_fine said).1 small
    (source_read two texts (ap (λ (t : Read). t.1.0) o) said (omega (arith, small))) faultless stops few in
    search (rules, filled_is)

-- that and that it has no fault, by one computation
abbrev pub AreSaid : (two : Bool) → List Text → List Text → List (Marked two) → Type 0
AreSaid two pieces ds marks =
    let lines = lines_of_pieces two pieces ds marks in
    ◌≡◌ {A = Read × (Option SourceFault × Option SourceFault)}
    (read_of two pieces ds marks, (fault Small lines, fault Full lines)) (wanted two pieces ds, (None, None))

no_fault : (lines : List Line) → fault Small lines ≡ None → fault Full lines ≡ None → (z : Size) → fault z lines ≡ None
no_fault lines small full Small = small
no_fault lines small full Full = full

pub program_runs : (s : Settings) (two : Bool) (pieces ds : List Text) (marks : List (Marked two)) {k orders at : ℕ}
    {printed : List ℕ} {text : Text} → AreSaid two pieces ds marks
    → ReachesStop k (entry_state s.size (lines_of_pieces two pieces ds marks)) printed at → length printed ≤ 1000000
    → k + 1 ≡ orders → paper printed ≡ text → SourceRuns s (filled_text pieces ds) orders at text
program_runs s two pieces ds marks o =
    read_runs s two pieces ds marks (ap (λ (t : Read × (Option SourceFault × Option SourceFault)). t.0) o)
    (no_fault (lines_of_pieces two pieces ds marks)
    (ap (λ (t : Read × (Option SourceFault × Option SourceFault)). t.1.0) o)
    (ap (λ (t : Read × (Option SourceFault × Option SourceFault)). t.1.1) o) s.size)
