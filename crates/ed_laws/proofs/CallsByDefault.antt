-- Without an option the limit is not below the orders of any call.
use Rattle.ed_laws.proofs.Kit.{Full, arith, refl, rules, subst, ◌≤◌, OfSource, run_outcome}
use Rattle.ed_library.specs.declared.call.Call.{Call}
use Rattle.ed_sources.specs.CallRuns.{most_call_orders}
use Rattle.ed_sources.specs.CallSources.{call_text}
use Rattle.ed_sources.proofs.CallRuns.{each_call_runs}
use Rattle.ed_sources.proofs.MostOrders.{each_most_is_taken}
use Rattle.ed_laws.specs.CallsByDefault.{CallsByDefault, usual_settings}

-- the limit without an option is greater than the orders of the longest calls
below_default : (call : Call) → most_call_orders call ≤ 10000000
below_default call = search rules

pub calls_by_default : CallsByDefault
calls_by_default = record {
  usual = refl;
  each = λ call made.
      let c = each_call_runs call usual_settings made in
      let few = c.few in
      let most = below_default call in
      record {
        lines = c.lines;
        accepted = c.accepted;
        costs = c.costs;
        few = few;
        due = subst (OfSource Full (run_outcome usual_settings) (call_text call)) (c.ends refl refl (omega arith))
            c.answers;
      };
  most = each_most_is_taken;
}
