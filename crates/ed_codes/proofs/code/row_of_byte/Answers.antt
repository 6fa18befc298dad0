use Rattle.std.proofs.Common.{◌≡◌, ◌==◌, get_or, false, ◌∙◌, rules, sym, arith}
use borrow.Author.Count.{below_more}
use Rattle.ed_codes.specs.Spelling.{letters}
use Rattle.ed_codes.proofs.Spellings.{eqb-differs, first_at, at_none, no_digit}
use Rattle.ed_codes.proofs.code.row_of_byte.Goals as goal

pub returns-then-letter-byte : goal.returns-then-letter-byte
returns-then-letter-byte c =
    sym (no_digit c.args.byte (sym c.if-is_ascii_digit.ensures.value)
    ∙ first_at letters c.args.byte c.loop-number.number (search rules) c.loop-number.invariant (search rules))

pub loop-number-preserved : goal.loop-number-preserved
loop-number-preserved c =
    below_more (λ k. (get_or letters k 0 == c.args.byte) ≡ false) c.loop-number.number c.loop-number.invariant
    (eqb-differs _ _ c.if-letter-byte.false)

pub returns : goal.returns
returns c =
    sym (no_digit c.args.byte (sym c.if-is_ascii_digit.ensures.value)
    ∙ at_none letters c.args.byte (λ k l. c.loop-number.invariant k (omega arith)))
