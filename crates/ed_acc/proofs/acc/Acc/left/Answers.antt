use Rattle.std.proofs.Common.{ℕ, ◌%◌, ◌^◌, ◌*◌, ap, ◌∙◌}
use Rattle.ed_acc.specs.Arithmetic.{left71}
use Rattle.ed_acc.proofs.Shifts.{digits_times}
use Rattle.ed_acc.proofs.acc.Acc.left.Goals as goal

pub invariant_of-self : goal.invariant_of-self
invariant_of-self c = (digits_times c.self.inside.digits (2 ^ c.few_places.result) c.self.invariant).0

pub returns : goal.returns
unfolding left71
returns c =
    (digits_times c.self.inside.digits (2 ^ c.few_places.result) c.self.invariant).1
    ∙ ap (λ (a : ℕ). a * 2 ^ c.few_places.result % 2 ^ 71) c.self.view_is
    ∙ ap (λ (k : ℕ). c.args.self.now * 2 ^ k % 2 ^ 71) c.few_places.ensures
