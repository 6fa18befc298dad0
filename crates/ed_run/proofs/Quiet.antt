-- How a run ends whose first orders neither print nor stop: at its limit, or where no row of the tape is left.
use Rattle.ed_run.proofs.Kit.{Ending, Limit, [], ap, arith, refl, rules, Some, ℕ, ◌-◌, ◌<◌, ◌∙◌, ◌≡◌, step, State}
use Rattle.ed_run.proofs.Kit.{progress, state_after, AllWent, end_at, run_end}
use Rattle.ed_machine.specs.declared.ending.Ending.TheVariants.{NoTape}
use Rattle.ed_machine.specs.declared.turn.Turn.TheVariants.{NoTape as HasNoTape}
use Rattle.ed_run.proofs.Ends.{limit_ends, ran_is}
use Rattle.ed_run.proofs.Later.{ran_later}

-- a run in which no order is obeyed
at_once : (limit resumes room : ℕ) (s : State) (ending : Ending)
    → end_at limit resumes room 0 (progress 0 s) ≡ Some ending
    → run_end limit resumes room s ≡ record { ending = ending; state = s; codes = [] }
unfolding progress
at_once limit resumes room s ending now =
    ran_is limit resumes room 0 s ending (record { now = now; first = λ j l. absurd (omega arith) })

limit_now : (resumes room : ℕ) (s : State) → end_at 0 resumes room 0 (progress 0 s) ≡ Some Limit
unfolding progress
limit_now resumes room s = limit_ends 0 resumes room 0 (progress 0 s) (omega arith) refl

no_tape_now : (limit resumes room : ℕ) (s : State) → 0 < limit → (step s).turn ≡ HasNoTape
    → end_at limit resumes room 0 (progress 0 s) ≡ Some NoTape
unfolding progress
no_tape_now limit resumes room s some turn = search rules

-- it ends at its limit
pub limit_there : (limit resumes room : ℕ) (s : State) → AllWent limit s
    → run_end limit resumes room s ≡ record { ending = Limit; state = state_after limit s; codes = [] }
limit_there limit resumes room s went =
    let none : limit - limit ≡ 0 = omega arith in
    ran_later limit resumes room limit s went (omega arith)
    ∙ ap (λ n. run_end n resumes room (state_after limit s)) none
    ∙ at_once 0 resumes room (state_after limit s) Limit (limit_now resumes room (state_after limit s))

-- it ends where no row is left
pub no_tape_there : (limit resumes room k : ℕ) (s : State) → AllWent k s → k < limit
    → (step (state_after k s)).turn ≡ HasNoTape
    → run_end limit resumes room s ≡ record { ending = NoTape; state = state_after k s; codes = [] }
no_tape_there limit resumes room k s went below turn =
    ran_later limit resumes room k s went (omega arith)
    ∙ at_once (limit - k) resumes room (state_after k s) NoTape
    (no_tape_now (limit - k) resumes room (state_after k s) (omega arith) turn)
