use Rattle.ed_command.proofs.Kit.{drop, string_bytes, list_all, ◌≡◌, is_plain_or_long}
use Rattle.ed_command.proofs.filter.are_plain_or_long.Given as goal

-- the same for the words that are left
abbrev pub invariant-loop-word : goal.invariant-loop-word
invariant-loop-word l =
    list_all (λ word. is_plain_or_long (string_bytes word)) (drop l.word-index l.words)
    ≡ list_all (λ word. is_plain_or_long (string_bytes word)) l.words
