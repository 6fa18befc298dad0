-- The run of a tape without a fault for Initial Orders 1 is the run from the state at its entry.
use Rattle.ed_laws.proofs.Kit.{AllWent, Full, ran_later, ReachesEntry1, Tape, List, refl, ℕ, first_state1}
use Rattle.ed_headline.proofs.Kit.{length-append, length-drop, length-replicate}
use Rattle.ed_initial1.proofs.Kit.{at_entry1, IsStarted1}
use Rattle.ed_machine.specs.State.{cleared_state}
use Rattle.ed_initial1.proofs.Opened.{HasItsLengths}
use Rattle.ed_initial1.proofs.Settled.{state_after-comes, all_went}
use Rattle.ed_initial1.proofs.Started.{is_started}
use Rattle.ed_initial1.proofs.Walks.{Reaches}
use Rattle.ed_initial1.proofs.Whole.{leads_in}
use Rattle.ed_laws.specs.FirstEntry.{EachProgramRunsFrom31, cost1}
use Rattle.ed_headline.proofs.FromEntry.{run_end-silent}
use Rattle.std.proofs.Common.{rules}

pub first_store : (codes : List ℕ) → HasItsLengths (first_state1 codes).store
unfolding first_state1
first_store codes = search (rules, length-append, length-drop, length-replicate)

pub IsStarted1-first_state1 : (codes : List ℕ) → IsStarted1 (first_state1 codes)
unfolding first_state1
IsStarted1-first_state1 codes = is_started codes (cleared_state Full) refl

reaches : (codes : List ℕ) (t : Tape) → ReachesEntry1 codes t
    → Reaches (cost1 t) (first_state1 codes) (at_entry1 (first_state1 codes) t)
unfolding first_state1
reaches codes t c = leads_in (first_state1 codes) (first_store codes) (IsStarted1-first_state1 codes) t c

pub first_went : (codes : List ℕ) (t : Tape) → ReachesEntry1 codes t → AllWent (cost1 t) (first_state1 codes)
first_went codes t c = all_went _ (at_entry1 (first_state1 codes) t) (cost1 t) (reaches codes t c)

pub runs_from_31 : EachProgramRunsFrom31
runs_from_31 s codes t c =
    let first = first_state1 codes in
    let k = cost1 t in
    let r = reaches codes t c in
    let went = first_went codes t c in
    let there = state_after-comes first (at_entry1 first t) k r in
    search (rules, ran_later, run_end-silent)
