use Rattle.ed_syntax.proofs.Kit.{arith, Bool, false, if◌then◌else◌, Ok, refl, rules, true, ℕ, ◌==◌, ◌≡◌, ◌≤◌, lines_of}
use Rattle.ed_syntax.proofs.Kit.{lines_from, is_second}
use Rattle.ed_syntax.proofs.Formed.{program_formed}
use Rattle.ed_syntax.proofs.source.program.Goals.{then-is_two, else-is_two}
use Rattle.ed_syntax.proofs.source.program.Goals as goal

one_or_two : (two : Bool) (n : ℕ) → n ≡ (if two then 2 else 1) → (1 ≤ n) × (n ≤ 2)
one_or_two true n e = (omega arith, omega arith)
one_or_two false n e = (omega arith, omega arith)

is_two : (two : Bool) (n : ℕ) → n ≡ (if two then 2 else 1) → (n == 2) ≡ two
is_two true n e = rw e refl
is_two false n e = rw e refl

pub invariant_of-result : goal.invariant_of-result
invariant_of-result c =
    let two = is_second c.in_ok-version.version in
    let number : c.if-is_two.result ≡ (if two then 2 else 1) = elim c.if-is_two.branch [
      | then-is_two w ↦ search rules
      | else-is_two w ↦ search rules
    ] in
    let found : lines_from two 1 (lines_of c.args.text.now) ≡ Ok c.in_ok-lines.lines.items =
    c.in_ok-lines.ensures in
    let h = program_formed two (lines_of c.args.text.now) c.in_ok-lines.lines.items found in
    record {
      version_is = one_or_two two c.if-is_two.result number;
      few = h.few;
      numbered = h.numbered;
      formed = rw (is_two two c.if-is_two.result number) h.formed;
    }
