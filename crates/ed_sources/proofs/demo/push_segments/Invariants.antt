use Rattle.ed_sources.proofs.Kit.{string_bytes, ◌++◌, ◌+◌, ◌-◌, ◌<◌, ◌≡◌, text_of_lines, segments}
use Rattle.ed_sources.proofs.demo.push_segments.Given as goal

-- the text so far, and then the segments that are left, whose words are those of the numbers after this one
abbrev pub invariant-loop-done : goal.invariant-loop-done
invariant-loop-done l = record {
  low : l.number < 65536;
  text : string_bytes l.text ++ text_of_lines (segments (l.n - l.done) (l.done + 1) l.number)
      ≡ string_bytes l.initial.text ++ text_of_lines (segments l.n 1 l.n);
}
