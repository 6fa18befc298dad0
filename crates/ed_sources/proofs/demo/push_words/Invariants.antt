use Rattle.ed_sources.proofs.Kit.{string_bytes, ◌++◌, ◌-◌, ◌<◌, ◌≡◌, text_of_lines, number_after, word_lines}
use Rattle.ed_sources.proofs.demo.push_words.Given as goal

-- the number so far is on the way to the last; the text so far, and then the lines of the words that are left
abbrev pub invariant-loop-word : goal.invariant-loop-word
invariant-loop-word l = record {
  low : l.number < 65536;
  last : number_after (8 - l._word) l.number ≡ number_after 8 l.before;
  text : string_bytes l.text ++ text_of_lines (word_lines (8 - l._word) l.number)
      ≡ string_bytes l.initial.text ++ text_of_lines (word_lines 8 l.before);
}
