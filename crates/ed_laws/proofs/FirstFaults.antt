-- A tape with a fault for Initial Orders 1: the machine waits for the row of the fault, in the state that the rows
-- before it mean.
use Rattle.ed_laws.proofs.Kit.{AllWent, true≢false, [], inr, List, None, Option, refl, Some, subst, sym, true, ℕ, ◌∷◌}
use Rattle.ed_laws.proofs.Kit.{◌≡◌, first_state1, ran_outcome}
use Rattle.ed_initial1.specs.declared.cause.Tape1Cause.{Tape1Cause}
use Rattle.ed_initial1.proofs.Kit.{is_broken1, Begun1, Item1}
use Rattle.ed_initial1.specs.Faults.{IsRead1}
use Rattle.ed_initial1.specs.Waits.{AwaitsRow1, orders_before1, waiting_place1}
use Rattle.ed_initial1.specs.declared.cause.Tape1Cause.TheVariants.{EndOfTape}
use Rattle.ed_initial1.proofs.Awaited.{needs_row, waits, waits_at}
use Rattle.ed_laws.specs.FirstFaults.{EachFaultyTapeWaits1}
use Rattle.ed_laws.proofs.CutRuns.{at_limit, at_no_tape, none_done1}
use Rattle.ed_laws.proofs.FirstEntries.{first_store, IsStarted1-first_state1}

-- where a tape must not end, it ends
ended : (before : List Item1) (part : Option Begun1) (rest : List ℕ) → is_broken1 before part rest EndOfTape ≡ true
    → rest ≡ []
ended before part [] h = refl
ended before None (c ∷ rest) h = absurd (true≢false (sym h))
ended before (Some b) (c ∷ rest) h = absurd (true≢false (sym h))

-- from a cleared machine
cleared_waits : (rows : List ℕ) {row : ℕ} (r : IsRead1 rows row)
    → AwaitsRow1 (first_state1 rows) (orders_before1 r) r.before r.part r.rest
unfolding first_state1
cleared_waits rows {row} r = waits (first_state1 rows) (first_store rows) (IsStarted1-first_state1 rows) row r

pub faulty_tapes_wait1 : EachFaultyTapeWaits1
faulty_tapes_wait1 s rows row cause f =
    let r = f.is.stands in
    let first = first_state1 rows in
    let k = orders_before1 r in
    let there = cleared_waits rows r in
    let went : AllWent k first = λ j below. (there.quiet j below).went in
    let none = none_done1 rows in
    let at = (waits_at r.part there).0 in
    record {
      checked = inr (record { row = row; cause = cause; fault = f; outcome = refl });
      waits = there;
      limited = at_limit s.limit s.resumes k (waiting_place1 r.part) first (ran_outcome []) [] went none at (λ e. refl);
      no_tape = λ is below.
          let broken = subst (λ (c : Tape1Cause). is_broken1 r.before r.part r.rest c ≡ true) is f.is.breaks in
          let last = ended r.before r.part r.rest broken in
          at_no_tape s.limit s.resumes k (waiting_place1 r.part) first (ran_outcome []) [] went none at (λ e. refl)
          below (needs_row r.part (subst (λ x. AwaitsRow1 first k r.before r.part x) last there));
    }
