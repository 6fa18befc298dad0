use Rattle.ed_orders.proofs.Kit.{[], ap, length, ℕ, ◌∙◌, ◌∷◌}
use Rattle.std.proofs.Common.{◌++◌}
use Rattle.std.proofs.lemmas.List.{length_push}
use Rattle.ed_orders.proofs.text.push_byte.Goals as goal

pub returns-clause-bytes : goal.returns-clause-bytes
returns-clause-bytes c =
    let byte = c.from.ensures in
    c.push.ensures.ascii (rw byte c.requires.ascii) ∙ ap (λ (b : ℕ). c.args.text.now.bytes ++ b ∷ []) byte

pub returns-clause-len : goal.returns-clause-len
returns-clause-len c =
    ap length (c.push.ensures.ascii (rw c.from.ensures c.requires.ascii)) ∙ length_push c.args.text.now.bytes _
