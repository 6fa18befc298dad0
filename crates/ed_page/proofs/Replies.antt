-- From the answer to the rows or the lines of a text to that to the text.
use Rattle.ed_page.proofs.Kit.{common_steps, rules, arith, Size, Settings, Line, IsRunResult, Reply, NotedRun, [], ap}
use Rattle.ed_page.proofs.Kit.{Err, inl, inr, List, Ok, refl, Result, Some, subst, sym, ℕ, ◌++◌, ◌∙◌, ◌≡◌, Text}
use Rattle.ed_page.proofs.Kit.{reading, rows, State, RunEnd, tape, ending_line, Outcome, IsAcceptedAs, ran_outcome}
use Rattle.ed_page.proofs.Kit.{run_of, entered_before, OfSource, run_outcome, RowsEnd, SourceEnds, IsReplied}
use Rattle.ed_headline.proofs.Kit.{IsErr, IsErrAnd, no_row, open_comment, Reading, exactly, OfReading, refusal}
use Rattle.ed_lines.specs.declared.fault.SourceFault.TheVariants.{At}
use Rattle.ed_report.specs.Notes.{source_fault_line}
use Rattle.ed_tapes.specs.Replies.{RefusesText}
use Rattle.ed_answers.specs.SourceReplies.{IsRunResultOf, LinksSource, RunsSource}
use Rattle.ed_tapes.specs.declared.reply.Rejection.{Rejection}
use Rattle.ed_tapes.specs.declared.reply.Rejection.TheVariants.{Memory, Refused}
use Rattle.ed_headline.proofs.EachSource.{one_answer}
use Rattle.ed_tapes.proofs.Replies.{refused_at}
use Rattle.ed_page.specs.Private.Stages.{IsAnswered, Runs}
use Rattle.ed_page.proofs.Endings.{noted_run}

-- what `?` passes on
passed : {T : Type 0} (P : Result T Rejection → Type 0) (e : Rejection) (r : Result T Rejection) → P (Err e)
    → IsErr r × IsErrAnd r (λ handed. handed ≡ e) → P r
passed P e r is handed = search rules

-- the reply that refuses a text
pub refused_reply : (answers : Text → Outcome → Type 0) (text : Text) {e : Rejection} {reply : Reply}
    → e ≡ Refused reply → IsAnswered answers text (Err e) → IsReplied answers text reply
refused_reply answers text is a = subst (λ (e : Rejection). IsAnswered answers text (Err e)) is a

-- ---- a tape's text

abbrev pub OfRows : (List ℕ → Outcome → Type 0) → Text → Outcome → Type 0
OfRows answers text = OfReading answers (reading text)

at_rows : (answers : List ℕ → Outcome → Type 0) {q : Reading} {codes : List ℕ} {o : Outcome} → q ≡ rows codes
    → answers codes o → OfReading answers q o
at_rows answers {o = o} is a = subst (λ (r : Reading). OfReading answers r o) (sym is) a

refused_rows : (answers : List ℕ → Outcome → Type 0) (text : Text) (e : Rejection) → RefusesText (reading text) e
    → IsAnswered (OfRows answers) text (Err e)
refused_rows answers text (Refused reply) refuses = refused_at answers (reading text) reply refuses
refused_rows answers text Memory refuses = tt

pub rows_refused : (answers : List ℕ → Outcome → Type 0) (text : Text) (e : Rejection) (r : Result Reply Rejection)
    → RefusesText (reading text) e → IsErr r × IsErrAnd r (λ handed. handed ≡ e) → IsAnswered (OfRows answers) text r
rows_refused answers text e r refuses handed = search (rules, refused_rows)

codes_of : Reading → List ℕ
codes_of (rows codes) = codes
codes_of (no_row place byte) = []
codes_of (open_comment place) = []

same_codes : (r : Reading) (codes others : List ℕ) → r ≡ rows codes → r ≡ rows others → codes ≡ others
unfolding codes_of
same_codes r codes others is same = ap codes_of (sym is ∙ same)

-- the run of its rows
pub rows_run : (outcome : List ℕ → Outcome) (run : List ℕ → RunEnd) (text : Text) {codes : List ℕ} (noted : NotedRun)
    → reading text ≡ rows codes → outcome codes ≡ ran_outcome [] (run codes)
    → IsRunResult (run codes) noted.ran → noted.note.items ≡ ending_line noted.ran.ending noted.ran.machine
    → Runs (OfRows (exactly outcome)) (RowsEnd run) text (Ok noted)
rows_run outcome run text {codes} noted is gives of line = (
  at_rows (exactly outcome) is (gives ∙ sym (noted_run [] noted of line)),
  record {
    some = λ m ends.
        ap (λ (s : State). Some s) of.state_is
        ∙ ap (λ (xs : List ℕ). Some (run xs).state) (same_codes (reading text) codes ends.0 is ends.1)
        ∙ ap (λ (t : State). Some t) (sym ends.2);
    none = λ nothing. absurd (nothing (run codes).state (codes, is, refl));
  },
)

-- no run of a text that is refused
not_run : (outcome : List ℕ → Outcome) (run : List ℕ → RunEnd) (text : Text) (e : Rejection)
    → RefusesText (reading text) e → Runs (OfRows (exactly outcome)) (RowsEnd run) text (Err e)
not_run outcome run text Memory refuses = tt
not_run outcome run text (Refused reply) refuses =
    grind (arith, common_steps, (refused_at (exactly outcome) (reading text) reply refuses))

pub rows_not_run : (outcome : List ℕ → Outcome) (run : List ℕ → RunEnd) (text : Text) (e : Rejection)
    (r : Result NotedRun Rejection) → RefusesText (reading text) e → IsErr r × IsErrAnd r (λ handed. handed ≡ e)
    → Runs (OfRows (exactly outcome)) (RowsEnd run) text r
rows_not_run outcome run text e r refuses handed = search (rules, not_run)

-- ---- a source

refused_source : (z : Size) (f : List Line → Outcome) (text : Text) (reply : Reply)
    → LinksSource z text (Err (Refused reply)) → IsReplied (OfSource z f) text reply
refused_source z f text reply l = (refusal (source_fault_line (At l.0 l.1)), inl (l.0, l.1, l.2, refl), l.3)

-- the run of its tape
ran_source : (s : Settings) (text : Text) (noted : NotedRun)
    → ((lines : List Line) → run_outcome s lines
    ≡ ran_outcome (entered_before lines (run_of s (tape lines)).state) (run_of s (tape lines)))
    → (lines : List Line) × IsAcceptedAs s.size text lines × IsRunResultOf s lines noted
    → Runs (OfSource s.size (run_outcome s)) (SourceEnds s) text (Ok noted)
ran_source s text noted plain (lines, accepted, is) =
    let state = (λ (lines : List Line). (run_of s (tape lines)).state) in
    let line : noted.note.items
    ≡ entered_before lines (state lines) ++ ending_line noted.ran.ending noted.ran.machine =
    is.note_is
    ∙ ap (λ (m : State). entered_before lines m ++ ending_line noted.ran.ending noted.ran.machine) is.ran.state_is in (
      inr (lines, accepted, plain lines ∙ sym (noted_run (entered_before lines (state lines)) noted is.ran line)),
      record {
        some = λ m ends.
            ap (λ (t : State). Some t) is.ran.state_is
            ∙ ap (λ (all : List Line). Some (state all))
            (one_answer.one_program s.size text lines ends.0 accepted ends.1)
            ∙ ap (λ (t : State). Some t) (sym ends.2);
        none = λ nothing. absurd (nothing (state lines) (lines, accepted, refl));
      },
    )

-- a source that is refused is not accepted, so that no run of it ends
pub source_run : (s : Settings) (text : Text) (r : Result NotedRun Rejection)
    → ((lines : List Line) → run_outcome s lines
    ≡ ran_outcome (entered_before lines (run_of s (tape lines)).state) (run_of s (tape lines)))
    → RunsSource s text r → Runs (OfSource s.size (run_outcome s)) (SourceEnds s) text r
source_run s text (Ok noted) plain is = ran_source s text noted plain is
source_run s text (Err Memory) plain l = tt
source_run s text (Err (Refused reply)) plain l = (
  refused_source s.size (run_outcome s) text reply l,
  record {
    some = λ m ends. absurd (one_answer.never_both s.size text ends.0 l.0 l.1 ends.1 l.2);
    none = λ nothing. refl;
  },
)

-- ---- no memory

pub none_answered : (answers : Text → Outcome → Type 0) (text : Text) (r : Result Reply Rejection)
    → IsErr r × IsErrAnd r (λ handed. handed ≡ Memory) → IsAnswered answers text r
none_answered answers text r handed = passed (IsAnswered answers text) Memory r tt handed
