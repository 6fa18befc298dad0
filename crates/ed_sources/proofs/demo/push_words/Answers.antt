use Rattle.ed_sources.proofs.Kit.{string_bytes, arith, suc, ◌+◌, ◌-◌, ◌≡◌}
use Rattle.ed_sources.proofs.DemoTexts.{no_number, no_word, one_behind, one_word}
use Rattle.ed_sources.proofs.demo.push_words.Goals as goal

pub loop-word-preserved : goal.loop-word-preserved
loop-word-preserved c =
    let l = c.loop-word in
    let inside = c.loop-word-test.true in
    let less : 8 - l._word ≡ suc (8 - (l._word + 1)) = omega (arith, inside) in
    let is = c.next-number.ensures in
    record {
      low = omega (arith, is);
      last = one_behind l.number less is l.invariant.last;
      text = one_word l.number (string_bytes l.text) less is c.in_ok-writeln.ensures.bytes l.invariant.text;
    }

pub returns-clause-last : goal.returns-clause-last
returns-clause-last c =
    let l = c.loop-word in
    no_number (8 - l._word) l.number (omega (arith, c.loop-word-test.false)) l.invariant.last

pub returns-clause-text : goal.returns-clause-text
returns-clause-text c =
    let l = c.loop-word in
    no_word (8 - l._word) l.number (string_bytes l.text) (omega (arith, c.loop-word-test.false)) l.invariant.text
