use Rattle.ed_command.proofs.Kit.{app_of, map, string_bytes, inl, inr, ◌∙◌}
use Rattle.ed_command.proofs.Whole.{Answered-matches}
use Rattle.ed_command.proofs.matching.matches_of.Goals as goal

-- the command is the program's, so `clap` answers by the parts of the words
pub returns-in-Ok-try_get_matches_from : goal.returns-in-Ok-try_get_matches_from
returns-in-Ok-try_get_matches_from c =
    let found = c.try_get_matches_from in
    let both = Answered-matches (map string_bytes c.args.words.now) (app_of c.in-Ok.command) found.result
    c.in-Ok.ensures c.requires found.ensures.matches found.ensures.kinds in
    rw c.in-Ok-try_get_matches_from.is at both.0

pub returns : goal.returns
returns c =
    let found = c.try_get_matches_from in
    let both = Answered-matches (map string_bytes c.args.words.now) (app_of c.in-Ok.command) found.result
    c.in-Ok.ensures c.requires found.ensures.matches found.ensures.kinds in
    let refused = rw c.in-Err.is at both.1 in
    elim refused [
      | inl memory ↦ absurd (c.in_default-kind.not-OutOfMemory (c.kind.ensures ∙ memory))
      | inr none ↦ λ usage. none
    ]
