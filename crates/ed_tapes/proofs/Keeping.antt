-- What a run keeps: the size of a machine, and a bound on the count of its orders. So a post-mortem can be printed.
use Rattle.ed_tapes.proofs.Kit.{Size, least_below, Settings, Window, State, run_end, first_state, ap}
use Rattle.ed_tapes.proofs.Kit.{arith, List, None, Option, Some, ℕ, ◌+◌, ◌∙◌, ◌≡◌, ◌≤◌}
use Rattle.std.proofs.Common.{IfSome, rules}
use Rattle.ed_machine.proofs.Keeping.{Follows, steps_follow}
use Rattle.ed_run.specs.SettingRanges.{AreSettingsInRange, IsWindowOf}
use Rattle.ed_tapes.specs.Replies.{IsPrintableIn}

pub run_follows : (limit resumes room : ℕ) (s : State) → Follows limit s (run_end limit resumes room s).state
unfolding run_end
run_follows limit resumes room s = search (rules, least_below, steps_follow)

-- a run ends on a machine of the size of the first one
pub ran_size : (limit resumes room : ℕ) (s last : State) → last ≡ (run_end limit resumes room s).state
    → last.size ≡ s.size
ran_size limit resumes room s last e = ap (λ (t : State). t.size) e ∙ (run_follows limit resumes room s).size_is

-- that size is the one of the command line
pub first_size : (z : Size) (rows : List ℕ) (s : State) → s ≡ first_state z rows → s.size ≡ z
unfolding first_state
first_size z rows s is = ap (λ (t : State). t.size) is

-- it counts at most as many further orders as its limit
pub ran_orders : (limit resumes room : ℕ) (s last : State) → last ≡ (run_end limit resumes room s).state
    → last.orders ≤ s.orders + limit
ran_orders limit resumes room s last e = search (rules, run_follows)

-- the words in the window of settings can be printed from a state
printable_in : (m : State) (z : Size) (window : Option Window) → m.size ≡ z → m.orders ≤ 100000000
    → IfSome window (IsWindowOf z) → IfSome window (IsPrintableIn m)
printable_in m z None size orders is = tt
printable_in m z (Some w) size orders is = search rules

pub is_fitting-printable : (s : Settings) (m : State) → AreSettingsInRange s → m.size ≡ s.size → m.orders ≤ s.limit
    → IfSome s.post_mortem (IsPrintableIn m)
is_fitting-printable s m ranges size orders =
    printable_in m s.size s.post_mortem size (omega (arith, orders, ranges.limit.1)) ranges.window
