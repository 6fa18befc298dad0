use Rattle.ed_postmortem.proofs.Kit.{length, ◌*◌, ◌+◌, ◌-◌, ◌≡◌, ◌≤◌, printed_codes}
use Rattle.ed_postmortem.proofs.printing.codes_needed.Given as goal

abbrev pub invariant-loop-done : goal.invariant-loop-done
invariant-loop-done l = record {
  sum : l.needed + length (printed_codes l.machine.store.words (l.first + l.done) (l.count - l.done))
      ≡ length (printed_codes l.machine.store.words l.first l.count);
  few : l.needed ≤ 11 * l.done;
}
