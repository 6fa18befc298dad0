-- From what is made of a source to the reply.
use Rattle.ed_words.specs.declared.memory.NoMemory.{NoMemory}
use Rattle.ed_words.specs.declared.size.Size.{Size}
use Rattle.ed_run.specs.declared.settings.Settings.{Settings}
use Rattle.ed_lines.specs.declared.fault.SourceCause.{SourceCause}
use Rattle.ed_lines.specs.declared.fault.SourceFault.{SourceFault}
use Rattle.ed_lines.specs.declared.fault.SourceFault.TheVariants.{At}
use Rattle.ed_lines.specs.declared.program.Line.{Line}
use Rattle.ed_link.specs.declared.linked.Linked.{Linked}
use Rattle.ed_link.specs.declared.linked.Placed.{Placed}
use Rattle.ed_tapes.specs.declared.reply.Rejection.{Rejection}
use Rattle.ed_tapes.specs.declared.reply.Reply.{Reply}
use Rattle.ed_headline.proofs.Kit.{IsErr, IsErrAnd, paper, State, text_of, HasFormFault, Err, IfErr, IfOk, Ok, Result}
use Rattle.ed_headline.proofs.Kit.{Text, IsProgram, HasMeaningFault, Bool, List, map, subst, ℕ, ◌++◌, ◌≡◌}
use Rattle.ed_headline.proofs.Kit.{canonicals, IsLinked, after_text, listing, entry_state, done, Outcome, for_form}
use Rattle.ed_headline.proofs.Kit.{for_meaning, IsAcceptedAs, IsRefused, Gives, Replies, post_mortem_codes, status_of}
use Rattle.ed_headline.proofs.Kit.{listing_outcome, of_source, punch_outcome, run_outcome}
use Rattle.ed_answers.specs.SourceReplies.{LinksSource, RunsSource}
use Rattle.ed_answers.specs.declared.source.NotedRun.{NotedRun}
use Rattle.ed_headline.proofs.Sources.{accepted_is, some_outcome}
use Rattle.ed_tapes.proofs.Replies.{passed_on, ran_gives}
use Rattle.ed_tapes.specs.declared.reply.Rejection.TheVariants as rejection
use Rattle.std.proofs.Common.{rules}

-- ---- what is made of a source

-- a fault of form
pub form_refused : (z : Size) {text : Text} {f : SourceFault} → HasFormFault text f → (line : ℕ) (cause : SourceCause)
    → f ≡ At line cause → IsRefused z text line cause
form_refused z {text} is line cause same = for_form (subst (HasFormFault text) same is)

-- if it is passed on by `?`
pub form_passed_on : (z : Size) (text : Text) (f : SourceFault) (r : Result Linked SourceFault) → HasFormFault text f
    → IsErr r × IsErrAnd r (λ handed. handed ≡ f)
    → IfErr r (λ fault. (line : ℕ) (cause : SourceCause) → fault ≡ At line cause → IsRefused z text line cause)
form_passed_on z text f (Ok k) is handed = tt
form_passed_on z text f (Err e) is handed = search (rules, form_refused)

-- the linked program of a source that is read, or a fault of meaning
pub read_linked : (z : Size) {text : Text} {two : Bool} {lines : List Line} (r : Result Linked SourceFault)
    → IsProgram text two lines → IfOk r (λ k. IsLinked z lines k)
    → IfOk r (λ k. (all : List Line) × IsAcceptedAs z text all × IsLinked z all k)
read_linked z {text} {two} {lines} (Ok k) p is = search rules
read_linked z (Err f) p is = tt

pub meaning_refused : (z : Size) {text : Text} {two : Bool} {lines : List Line} (r : Result Linked SourceFault)
    → IsProgram text two lines → IfErr r (λ f. HasMeaningFault z lines f)
    → IfErr r (λ f. (line : ℕ) (cause : SourceCause) → f ≡ At line cause → IsRefused z text line cause)
meaning_refused z (Ok k) p is = tt
meaning_refused z {text} {two} {lines} (Err f) p is =
    λ line cause same. for_meaning p (subst (HasMeaningFault z lines) same is)

-- ---- the outcome of an input

-- of an accepted source
pub linked_replied : (z : Size) (accepted : List Line → Outcome) (input : Text) (k : Linked) (reply : Reply)
    → LinksSource z input (Ok k)
    → ((lines : List Line) → IsLinked z lines k → Gives reply (accepted lines))
    → Replies (of_source z accepted) input (Ok reply)
linked_replied z accepted input k reply l g = (accepted l.0, accepted_is z accepted input l.0 l.1, g l.0 l.2)

-- of one that is refused
source_rejected : (z : Size) (accepted : List Line → Outcome) (input : Text) (e : Rejection)
    → LinksSource z input (Err e) → Replies (of_source z accepted) input (Err e)
source_rejected z accepted input (rejection.Refused reply) l = search rules
source_rejected z accepted input rejection.Memory l = let some = some_outcome z accepted input in (some.0, some.1, tt)

-- if it is passed on by `?`
pub source_refused : (z : Size) (accepted : List Line → Outcome) (input : Text) (r : Result Reply Rejection)
    (e : Rejection) → LinksSource z input (Err e) → IsErr r × IsErrAnd r (λ handed. handed ≡ e)
    → Replies (of_source z accepted) input r
source_refused z accepted input r e l =
    passed_on (of_source z accepted) input r e (source_rejected z accepted input e l)

-- of one for which no memory is found
pub source_unanswered : (z : Size) (accepted : List Line → Outcome) (input : Text) (r : Result Reply Rejection)
    → IsErr r × IsErrAnd r (λ handed. handed ≡ rejection.Memory) → Replies (of_source z accepted) input r
source_unanswered z accepted input r =
    passed_on (of_source z accepted) input r rejection.Memory (source_rejected z accepted input rejection.Memory tt)

-- ---- the reply of a run

-- of a source that is accepted
pub run_replied : (s : Settings) (input : Text) (noted : NotedRun) (reply : Reply) → RunsSource s input (Ok noted)
    → Gives reply (record {
      out = paper (noted.ran.paper.codes ++ post_mortem_codes s.post_mortem noted.ran.machine);
      note = noted.note.items;
      status = status_of noted.ran.ending;
    })
    → Replies (of_source s.size (run_outcome s)) input (Ok reply)
run_replied s input noted reply (lines, accepted, is) gives = search (rules, accepted_is, ran_gives)

-- of one that is refused, if that is passed on by `?`
pub source_not_run : (s : Settings) (text : Text) (e : Rejection) (r : Result NotedRun Rejection)
    → LinksSource s.size text (Err e) → IsErr r × IsErrAnd r (λ handed. handed ≡ e) → RunsSource s text r
source_not_run s text e (Ok noted) l is = absurd (cc)
source_not_run s text e (Err handed) l is = search rules

-- ---- the tape and the listing

pub punch_gives : (z : Size) (k : Linked) (reply : Reply) {text : Text}
    → text ≡ text_of (canonicals k.items.items) ++ after_text k.after.items → Gives reply (done text)
    → (lines : List Line) → IsLinked z lines k → Gives reply (punch_outcome lines)
punch_gives z k reply same gives lines is = search rules

pub listing_gives : (z : Size) (k : Linked) (m : State) (words : List Placed) (r : Result Reply NoMemory)
    → ((lines : List Line) → IsLinked z lines k → m ≡ entry_state z lines) → words ≡ k.words.items
    → IfOk r (λ reply. Gives reply (done (listing m.store (map (λ (p : Placed). p.place) words))))
    → IfOk r (λ reply. (lines : List Line) → IsLinked z lines k → Gives reply (listing_outcome lines))
listing_gives z k m words (Err e) entry same gives = tt
listing_gives z k m words (Ok reply) entry same gives = search rules
