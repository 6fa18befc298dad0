-- From the rows of a text and the reply to a script to the outcome of an input.
use Rattle.ed_top.proofs.Kit.{Vec, Global, Settings, of_input, of_made, Rejection, Refused, Reply, [], ap, Err, inr}
use Rattle.ed_top.proofs.Kit.{IsErr, IsErrAnd, List, None, Ok, refl, Result, subst, sym, ℕ, ◌++◌, ◌∙◌, ◌≡◌, Text}
use Rattle.ed_top.proofs.Kit.{Reading, reading, rows, tape, done, Outcome, refusal, Gives, Replies, OfSource, IsDivided}
use Rattle.ed_top.proofs.Kit.{CommandList, IsFirstBadLine, TextKind, Input, IsScript, play, Stand, on_rows, OnInput}
use Rattle.ed_top.proofs.Kit.{OnText, played_outcome, StepOutcome}
use Rattle.std.proofs.Common.{MatchResult, rules}
use Rattle.std.specs.List.{flat_map}
use Rattle.ed_codes.specs.Reading.{no_row, open_comment}
use Rattle.ed_notation.specs.Spellings.{item_rows}
use Rattle.ed_lines.specs.declared.program.Line.{Line}
use Rattle.ed_link.specs.declared.linked.Linked.{Linked}
use Rattle.ed_report.specs.Notes.{too_far_line}
use Rattle.ed_tapes.specs.Replies.{RefusesText}
use Rattle.ed_answers.specs.SourceReplies.{LinksSource}
use Rattle.ed_answers.proofs.Sources.{source_refused, source_unanswered}
use Rattle.ed_stepper.specs.ScriptLines.{HasBadLine, OfScript}
use Rattle.ed_stepper.specs.Scripts.{GoesTooFar, ScriptEnds}
use Rattle.ed_stepper.specs.declared.script.ScriptFault.{ScriptFault}
use Rattle.ed_stepper.specs.declared.script.ScriptFault.TheVariants.{BackTooFar, BadCommand}
use Rattle.ed_stepper.proofs.ScriptLaws.{never_both, one_script}
use Rattle.ed_top.specs.Private.Rows.{HasRows}
use Rattle.ed_top.specs.Scripts.{on_reading}
use Rattle.ed_top.proofs.Made.{as_made, replies_more}
use Rattle.ed_stepper.specs.declared.inputs.TextKind.TheVariants as kinds
use Rattle.ed_tapes.specs.declared.reply.Rejection.TheVariants as rejection

-- a tape's text that is refused
pub text_refused : (s : Settings) (commands : CommandList) (r : Reading) (e : Rejection) → RefusesText r e
    → Replies (of_made (λ o. on_reading s commands r ≡ o)) [] (Err e)
text_refused s commands (rows codes) (Refused reply) w = absurd w
text_refused s commands (no_row place byte) (Refused reply) w = (_, refl, w)
text_refused s commands (open_comment place) (Refused reply) w = (_, refl, w)
text_refused s commands r rejection.Memory w = (on_reading s commands r, refl, tt)

-- an input that is divided this way
pub divided_replied : (s : Settings) (input : Text) (i : Input) (r : Result Reply Rejection) → IsDivided input i
    → Replies (of_made (OnInput s i)) [] r → Replies (of_input (StepOutcome s)) input r
divided_replied s input i r is =
    replies_more (of_made (OnInput s i)) (of_input (StepOutcome s)) [] input r (λ P x. (x.0, inr (i, is, x.1), x.2))

-- what follows a script that has been tested, in such an input
pub text_replied : (s : Settings) (input : Text) (i : Input) (r : Result Reply Rejection) → IsDivided input i
    → HasBadLine i.script None
    → ((commands : CommandList) → IsScript i.script commands → Replies (of_made (OnText s commands i.kind i.text)) [] r)
    → Replies (of_input (StepOutcome s)) input r
text_replied s input i r is good replies =
    replies_more (of_made (OnText s good.0 i.kind i.text)) (of_input (StepOutcome s)) [] input r
    (λ P x. (x.0, inr (i, is, inr (good.0, good.1, x.1)), x.2)) (replies good.0 good.1)

-- what a script gives, by what was played of it
pub played_given : (script : Text) (commands : CommandList) (from t : Stand) (text : Vec ℕ Global) (reply : Reply)
    → IsScript script commands → ScriptEnds script from (Ok text) t → Gives reply (done text.items)
    → Gives reply (played_outcome (play 1 commands from))
played_given script commands from t text reply is ends gives =
    let same = one_script script ends.0 commands ends.1 is in
    subst (Gives reply) (ap played_outcome (sym ends.2) ∙ ap (λ cs. played_outcome (play 1 cs from)) same) gives

-- by the line that went back too far
pub far_given : (script : Text) (commands : CommandList) (from t : Stand) (fault : ScriptFault) (line done : ℕ)
    (reply : Reply) → IsScript script commands → ScriptEnds script from (Err fault) t → fault ≡ BackTooFar line done
    → Gives reply (refusal (too_far_line line done)) → Gives reply (played_outcome (play 1 commands from))
far_given script commands from t fault line done reply is ends fault_is gives =
    let far : OfScript script (λ cs. GoesTooFar cs from t line done) =
    subst (λ f. ScriptEnds script from (Err f) t) fault_is ends in
    let same = one_script script far.0 commands far.1 is in
    search rules

-- a script that has been tested has no bad line
pub never_refused : (script : Text) (from t : Stand) (fault : ScriptFault) (line : ℕ) → HasBadLine script None
    → ScriptEnds script from (Err fault) t → fault ≡ BadCommand line → ⊥
never_refused script from t fault line good ends fault_is =
    let bad : IsFirstBadLine script line × (t ≡ from) = subst (λ f. ScriptEnds script from (Err f) t) fault_is ends in
    never_both script good.0 line good.1 bad.0

-- ---- the rows of a text

-- of a tape's text
pub tape_rows : (s : Settings) (kind : TextKind) (text : Text) (r : Result (Vec ℕ Global) Rejection)
    → kind ≡ kinds.Tape → MatchResult r (λ v. reading text ≡ rows v.items) (RefusesText (reading text))
    → HasRows s kind text r
tape_rows s kind text (Ok v) is read = search rules
tape_rows s kind text (Err e) is refuses = λ commands.
    subst (λ k. Replies (of_made (OnText s commands k text)) [] (Err e)) (sym is)
    (text_refused s commands (reading text) e refuses)

-- the outcome of a source that is accepted
abbrev on_lines : Settings → CommandList → List Line → Outcome
on_lines s commands lines = on_rows s commands (tape lines)

-- of the tape of a source
pub source_rows : (s : Settings) (kind : TextKind) (text : Text) (k : Linked) (v : Vec ℕ Global)
    → kind ≡ kinds.Source → LinksSource s.size text (Ok k)
    → v.items ≡ flat_map item_rows k.items.items ++ k.after.items → HasRows s kind text (Ok v)
source_rows s kind text k v is links rows_are = search rules

-- of a source that is refused
pub source_has_none : (s : Settings) (kind : TextKind) (text : Text) (r : Result (Vec ℕ Global) Rejection)
    (e : Rejection) → kind ≡ kinds.Source → LinksSource s.size text (Err e)
    → IsErr r × IsErrAnd r (λ handed. handed ≡ e) → HasRows s kind text r
source_has_none s kind text (Ok v) e is links handed = absurd (cc)
source_has_none s kind text (Err h) e is links handed = λ commands.
    subst (λ k. Replies (of_made (OnText s commands k text)) [] (Err h)) (sym is)
    (as_made (OfSource s.size (on_lines s commands)) text (Err h)
    (source_refused s.size (on_lines s commands) text (Err h) e links handed))

-- of one whose rows find no memory
pub source_without_memory : (s : Settings) (kind : TextKind) (text : Text) (r : Result (Vec ℕ Global) Rejection)
    → kind ≡ kinds.Source → IsErr r × IsErrAnd r (λ handed. handed ≡ rejection.Memory) → HasRows s kind text r
source_without_memory s kind text (Ok v) is none = absurd (cc)
source_without_memory s kind text (Err h) is none = λ commands.
    subst (λ k. Replies (of_made (OnText s commands k text)) [] (Err h)) (sym is)
    (as_made (OfSource s.size (on_lines s commands)) text (Err h)
    (source_unanswered s.size (on_lines s commands) text (Err h) none))
