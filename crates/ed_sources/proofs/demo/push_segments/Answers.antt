use Rattle.ed_sources.proofs.Kit.{string_bytes, arith, rules, subst, suc, sym, ◌+◌, ◌-◌, ◌<◌, ◌≡◌}
use Rattle.ed_sources.proofs.DemoTexts.{behind_low, no_segment, one_segment}
use Rattle.ed_sources.proofs.demo.push_segments.Goals as goal

pub loop-done-preserved : goal.loop-done-preserved
loop-done-preserved c =
    let l = c.loop-done in
    let inside = c.loop-done-test.true in
    let less : c.args.n - l.done ≡ suc (c.args.n - (l.done + 1)) = omega (arith, inside) in
    let last = c.in_ok-number.ensures.last in
    record {
      low = subst (λ x. x < 65536) (sym last) (behind_low 8 l.number l.invariant.low);
      text = one_segment (l.done + 1) l.number (string_bytes l.text) less c.in_ok-writeln.ensures.bytes
          c.in_ok-number.ensures.text last l.invariant.text;
    }

pub returns : goal.returns
returns c = search (rules, no_segment, string_bytes)
