-- From a run that ended, with its note, to what the program answers of it.
use Rattle.ed_page.proofs.Kit.{rules, Settings, IsRunResult, FinishedRun, NotedRun, [], List, None, Ok, Option, Result}
use Rattle.ed_page.proofs.Kit.{subst, ℕ, ◌++◌, ◌≡◌, Text, RunEnd, ending_line, ran_outcome, run_of, tape_outcome}
use Rattle.ed_headline.proofs.Kit.{IfOk, with_post_mortem}
use Rattle.ed_words.specs.declared.memory.NoMemory.{NoMemory}
use Rattle.ed_run.specs.declared.settings.Window.{Window}
use Rattle.ed_page.specs.Private.Stages.{noted_outcome}

unasked : (before : Text) (window : Option Window) (r : RunEnd) → window ≡ None
    → ran_outcome before (with_post_mortem window r) ≡ ran_outcome before r
unasked before window r none = search rules

pub plain_tape : (s : Settings) (codes : List ℕ) → s.post_mortem ≡ None
    → tape_outcome s codes ≡ ran_outcome [] (run_of s codes)
plain_tape s codes none = unasked [] s.post_mortem (run_of s codes) none

-- a run that ended is the one of an outcome
pub noted_run : (before : Text) {r : RunEnd} (noted : NotedRun) → IsRunResult r noted.ran
    → noted.note.items ≡ before ++ ending_line noted.ran.ending noted.ran.machine
    → noted_outcome noted ≡ ran_outcome before r
noted_run before {r} noted is n = search rules

-- what holds of a run if there is one holds of the run that there is
pub ran_is : {r : Result FinishedRun NoMemory} {ran : FinishedRun} (P : FinishedRun → Type 0) → r ≡ Ok ran → IfOk r P
    → P ran
ran_is P is holds = subst (λ (x : Result FinishedRun NoMemory). IfOk x P) is holds
