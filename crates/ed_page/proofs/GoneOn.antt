-- From a run that continued to the cause of an answer.
use Rattle.ed_page.proofs.Kit.{common_steps, rules, IsRunResult, FinishedRun, [], arith, length, List, ℕ, ◌-◌, ◌≡◌}
use Rattle.ed_page.proofs.Kit.{Text, State, state_after, run_end, RunEnd, paper_room, Buffers, IsShown, AreCodes}
use Rattle.ed_page.proofs.Kit.{Pictures, Registers}
use Rattle.ed_machine.specs.Sheet.{Sheet}
use Rattle.ed_run.specs.Run.{RunLeaves}
use Rattle.ed_tapes.specs.Answer.{Answer}
use Rattle.ed_page.specs.Going.{BeginsOnTheWay, IsOnTheWay}
use Rattle.ed_page.proofs.Goes.{run_end-stays}

-- what is shown then is on the way again
pub next_on : (first : State) (rows : List ℕ) (k limit resumes room : ℕ) (words digits : List ℕ) (registers : Registers)
    → AreCodes rows → Pictures (run_end limit resumes room (state_after k first)).state words digits registers
    → IsOnTheWay first rows words digits registers
next_on first rows k limit resumes room words digits registers are pictures =
    grind (arith, common_steps, (run_end-stays first k limit resumes room))

-- what is shown of a text is on the way too
pub begins_on : (wanted : Answer) (Ends : Text → State → Type 0) (text : Text) (before after : Buffers) (answer : ℕ)
    (first : State) (limit resumes : ℕ) (rows : List ℕ) (run : RunEnd)
    → IsShown wanted Ends text before after answer → AreCodes rows
    → run ≡ run_end limit resumes paper_room (state_after 0 first) → Ends text run.state
    → BeginsOnTheWay first rows text after.words after.digits after.registers answer
begins_on wanted Ends text before after answer first limit resumes rows run shown are from_first ends few not10 not12 =
    search (rules, next_on)

-- a run on a fresh paper with this room
pub gone_of : (limit resumes room : ℕ) (m : State) (sheet full : Sheet) (gone : FinishedRun)
    → sheet ≡ record { codes = []; room = room }
    → RunLeaves (run_end limit resumes (sheet.room - length sheet.codes) m) sheet gone.ending gone.machine full
    → gone.paper.codes ≡ full.codes → IsRunResult (run_end limit resumes room m) gone
gone_of limit resumes room m sheet full gone fresh left codes = search rules
