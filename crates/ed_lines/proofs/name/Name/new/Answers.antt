use Rattle.ed_lines.proofs.Kit.{arith, refl, sym, ◌∙◌, ◌≡◌, nat_tests, take_at, rules}
use Rattle.ed_lines.proofs.NameBytes.{padded_text}
use Rattle.ed_lines.proofs.NameTexts.{empty_or_long, length-within}
use Rattle.ed_lines.proofs.name.Name.new.Goals as goal

pub invariant_of-result : goal.invariant_of-result
invariant_of-result c =
    let text = c.args.text.now in
    let bytes : c.copy_from_slice.new.self ≡ text = c.copy_from_slice.ensures.after ∙ c.as_bytes.ensures.value in
    rw bytes (padded_text text (grind (arith, nat_tests)) (omega arith) c.utf8.text)

pub returns-clause-some : goal.returns-clause-some
returns-clause-some c = search (rules, take_at)

pub returns-clause-none : goal.returns-clause-none
returns-clause-none c = length-within c.args.text.now (sym c.if-is_empty.ensures) c.if-text-gt16.false

pub returns-then-is_empty : goal.returns-then-is_empty
returns-then-is_empty c = record {
  none = (λ e. empty_or_long c.args.text.now _ c.is_empty.ensures c.then-is_empty.either, λ s. refl);
  some = tt;
}
