use Rattle.ed_machine.proofs.Names.{◌-◌, locations, within, Size, ◌^◌, arith, ℕ, ◌+◌, ◌≡◌}
use Rattle.std.proofs.Common.{bit_and}
use Rattle.std.proofs.lemmas.Nat.{and_mask}
use Rattle.ed_words.specs.declared.size.Size.TheVariants.{Small, Full}
use Rattle.ed_words.proofs.SizeLemmas.{within_is}
use Rattle.ed_machine.proofs.machine.Machine.within.Goals as goal

-- the digits of a number that the last location has too are the number modulo the size
masked : (z : Size) (n last : ℕ) → last + 1 ≡ locations z → bit_and n last ≡ within z n
masked Small n last is = let e : last ≡ 2 ^ 9 - 1 = omega arith in rw (e, within_is Small n) (and_mask n 9)
masked Full n last is = let e : last ≡ 2 ^ 10 - 1 = omega arith in rw (e, within_is Full n) (and_mask n 10)

pub returns-clause-is : goal.returns-clause-is
returns-clause-is c =
    rw (← c.self.view_is) (masked c.self.inside.size c.args.number c.self.inside.last_place (omega arith))
