use Rattle.ed_page.proofs.Kit.{take, drop, ◌++◌, ◌≡◌}
use Rattle.ed_page.proofs.writing.write_codes.Given as goal

-- the codes so far, and the bytes after them
abbrev pub invariant-loop-place : goal.invariant-loop-place
invariant-loop-place l = l.buffer ≡ take l.place l.codes ++ drop l.place l.fn.buffer
