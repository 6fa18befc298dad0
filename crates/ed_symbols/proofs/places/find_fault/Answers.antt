use Rattle.ed_symbols.proofs.Kit.{ap, arith, refl, sym, ◌∙◌, ◌≡◌, naming_cause, segment_of, LocationCounter}
use Rattle.ed_symbols.specs.Places.{segment_at}
use Rattle.ed_symbols.proofs.Least.{goes_on, is_least_at, none_left}
use Rattle.ed_symbols.proofs.places.find_fault.Goals.{then-again, else-again}
use Rattle.ed_symbols.proofs.places.find_fault.Goals as goal

-- the current line has a fault, and none before it had one
pub returns-in-Some : goal.returns-in-Some
returns-in-Some c =
    let cause : c.if-again.cause ≡ naming_cause c.args.symbols.now c.in_ok-again.again c.line-item.result
    c.loop-line.counter = elim c.if-again.branch [
      | then-again w ↦ rw (w.cause-is, w.if-again.true) refl
      | else-again w ↦
          let segment : w.segment.result ≡ segment_of c.line-item.result c.loop-line.counter =
          w.segment.ensures ∙ ap (λ (s : LocationCounter). segment_at s) c.after_statement-next.ensures.is in
          rw (w.cause-is, w.statement_cause-cause.ensures, segment, w.if-again.false) refl
    ] in
    sym (is_least_at _ _ _ c.deref-line-items.ensures.value
    c.loop-line-test.true c.line-item.is c.in_ok-again.ensures.again (sym cause ∙ c.in-Some.is))
    ∙ c.loop-line.invariant.0

-- and the lines that are left have the fault, if the current line has none
pub loop-line-preserved : goal.loop-line-preserved
loop-line-preserved c =
    let l = c.loop-line in
    let cause : c.if-again.cause ≡ naming_cause c.args.symbols.now c.in_ok-again.again c.line-item.result l.counter =
    elim c.if-again.branch [
      | then-again w ↦ rw (w.cause-is, w.if-again.true) refl
      | else-again w ↦
          let segment : w.segment.result ≡ segment_of c.line-item.result c.loop-line.counter =
          w.segment.ensures ∙ ap (λ (s : LocationCounter). segment_at s) c.after_statement-next.ensures.is in
          rw (w.cause-is, w.statement_cause-cause.ensures, segment, w.if-again.false) refl
    ] in
    let counter = c.after_statement-next.ensures in (
      goes_on c.args.symbols.now l.earlier.items l.counter c.deref-line-items.ensures.value c.loop-line-test.true
          c.line-item.is c.in_ok-again.ensures.again (sym cause ∙ c.in_default.is)
          c.in_ok-again.ensures.symbols counter.is l.invariant.0,
      omega (arith, counter.place, l.invariant.1),
      omega (arith, counter.segments, l.invariant.2),
    )

pub returns : goal.returns
returns c =
    none_left c.args.symbols.now c.loop-line.earlier.items c.loop-line.counter c.deref-line-items.ensures.value
    c.loop-line-test.false c.loop-line.invariant.0
