use Rattle.ed_command.proofs.Kit.{drop, map, ◌≡◌, line_in, line_named, lines}
use Rattle.ed_command.proofs.lines.line_named.Given as goal

-- the same line among those that are left
abbrev pub invariant-loop-line : goal.invariant-loop-line
invariant-loop-line l =
    line_named (map line_in (drop l.line-index l.line-items)) l.word ≡ line_named lines l.word
