-- The run of an accepted source's tape is the run from the state at its entry.
use Rattle.ed_headline.proofs.Kit.{NoMemory, least, RunEnd, Settings, State, progress, state_after, AllWent, run_end}
use Rattle.ed_headline.proofs.Kit.{ran_later, first_state, Line, Err, IfOk, Ok, Result, entry_of, cost, tape, Linked}
use Rattle.ed_headline.proofs.Kit.{[], ap, arith, Bool, if◌then◌else◌, List, refl, subst, sym, ℕ, ◌-◌, ◌<◌, ◌∙◌, ◌≡◌}
use Rattle.ed_headline.proofs.Kit.{◌≤◌, IsLinked, entry_note, Enters, entry_state, entry_store, IsEntryStore}
use Rattle.ed_headline.proofs.Kit.{paper_room, run_of, entered_before}
use Rattle.std.proofs.lemmas.Bool.{le-leb}
use Rattle.ed_headline.specs.FromEntry.{AnswersFromEntry}
use Rattle.ed_headline.specs.Headline.{RunsFromEntry}
use Rattle.ed_tapes.specs.Replies.{IsRunResult}
use Rattle.ed_tapes.specs.declared.running.FinishedRun.{FinishedRun}
use Rattle.ed_headline.proofs.Entries.{enters as enters_of}
use Rattle.ed_tapes.proofs.Keeping.{run_follows}
use Rattle.std.proofs.lemmas.Grind.{common_steps}
use Rattle.std.proofs.Common.{rules}

-- ---- from the entry

reached : (lines : List Line) (s : State) → cost lines ≤ s.orders
    → entered_before lines s ≡ entry_note (entry_of lines) (cost lines)
reached lines s h =
    ap (λ (b : Bool). if b then entry_note (entry_of lines) (cost lines) else []) (le-leb (cost lines) s.orders h)

-- a run with no order prints nothing
pub none_first : (resumes room : ℕ) (s : State) → (run_end 0 resumes room s).codes ≡ []
unfolding run_end progress least
none_first resumes room s = refl

-- nor does one whose limit is below the number of orders that neither print nor stop
pub run_end-silent : (limit resumes room k : ℕ) (s : State) → AllWent k s → limit < k
    → (run_end limit resumes room s).codes ≡ []
run_end-silent limit resumes room k s went below =
    let zero : limit - limit ≡ 0 = omega arith in
    let later : run_end limit resumes room s ≡ run_end (limit - limit) resumes room (state_after limit s) =
    ran_later limit resumes room limit s (λ j l. went j (omega (arith, l, below))) (omega arith) in
    ap (λ (r : RunEnd). r.codes) (later ∙ ap (λ n. run_end n resumes room (state_after limit s)) zero)
    ∙ none_first resumes room (state_after limit s)

-- the run from Start is that from the state at the entry, with the limit less the cost
run_on : (s : Settings) (lines : List Line) → Enters s.size lines (entry_store lines) → cost lines ≤ s.limit
    → run_of s (tape lines) ≡ run_end (s.limit - cost lines) s.resumes paper_room (entry_state s.size lines)
run_on s lines enters fits = search (rules, ran_later)

-- so the run of a machine that was led to the entry of a linked program only has to continue
pub goes_on : (s : Settings) (k : Linked) (entered : State) (r : Result FinishedRun NoMemory) → entered.orders ≤ s.limit
    → ((lines : List Line) → IsLinked s.size lines k → entered ≡ entry_state s.size lines)
    → IfOk r (IsRunResult (run_end (s.limit - entered.orders) s.resumes paper_room entered))
    → IfOk r (λ run. (lines : List Line) → IsLinked s.size lines k → IsRunResult (run_of s (tape lines)) run)
goes_on s k entered (Err e) fits at is = tt
goes_on s k entered (Ok left) fits at is = λ lines linked.
    let whole : entered.orders ≤ s.limit → IsRunResult (run_end (s.limit - entered.orders) s.resumes
    paper_room entered) left
    → IsRunResult (run_of s (tape lines)) left =
    subst
    (λ (t : State). t.orders ≤ s.limit → IsRunResult (run_end (s.limit - t.orders) s.resumes paper_room t) left
    → IsRunResult (run_of s (tape lines)) left)
    (sym (at lines linked))
    (λ few went. subst (λ (e : RunEnd). IsRunResult e left)
    (sym (run_on s lines (enters_of s.size lines linked.loads) few)) went) in
    whole fits is

pub runs_from_entry : (s : Settings) (lines : List Line) → Enters s.size lines (entry_store lines)
    → IsEntryStore lines (entry_store lines) → RunsFromEntry s lines
runs_from_entry s lines enters store_is = grind (arith, common_steps, run_on, run_end-silent)

-- ---- what `run` answers

pub answers_from_entry : (s : Settings) (lines : List Line) → Enters s.size lines (entry_store lines)
    → AnswersFromEntry s lines
answers_from_entry s lines enters = search (rules, run_follows, run_on, reached, run_end-silent)
