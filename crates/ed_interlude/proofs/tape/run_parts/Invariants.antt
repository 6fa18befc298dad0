use Rattle.ed_interlude.proofs.Kit.{length, ◌*◌, ◌+◌, ◌-◌, ◌≡◌, ◌≢◌, ◌≤◌, first_part, Ahead, IsReturned}
use Rattle.ed_interlude.proofs.tape.run_parts.Given as goal

abbrev pub invariant-parts : goal.invariant-parts
invariant-parts g l = record {
  ahead : Ahead l.limit l.rows (first_part l.fn.machine) (record {
    number = l.number;
    done = l.done;
    state = l.machine;
  })
      (g.K.Sink.held l.fn.out) (g.K.Sink.held l.out);
  back : l.number ≢ 1 → IsReturned l.machine;
  whole : l.rows ≡ length l.fn.machine.tape;
  rows : length l.machine.tape ≤ l.rows;
  done : l.done ≤ l.limit;
  many : 2 * l.number ≤ l.done + 2;
  orders : l.machine.orders ≤ l.fn.machine.orders + l.done;
  faults : g.K.Sink.faults l.out ≡ g.K.Sink.faults l.fn.out;
}

abbrev pub decreases-parts : goal.decreases-parts
decreases-parts g l = l.limit - l.done
