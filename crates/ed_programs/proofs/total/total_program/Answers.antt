use Rattle.ed_programs.proofs.Kit.{[], ap, if◌then◌else◌, List, nat_lt, Some, true, ℕ, ◌∙◌, ◌∷◌, ◌≡◌, ltb-true, Text}
use Rattle.ed_programs.proofs.Kit.{filled_text, list_refusal, total_text, prints_as}
use Rattle.ed_routines.specs.Digits.{sum}
use Rattle.ed_programs.specs.Total.{total_refusal}
use Rattle.ed_programs.specs.declared.refusal.Refusal.TheVariants.{Number}
use Rattle.ed_programs.proofs.NumberLists.{IsList, is_list}
use Rattle.ed_programs.proofs.Texts.{GivesProgram-written}
use Rattle.ed_programs.proofs.TotalRuns.{each_total, total_pieces}
use Rattle.ed_programs.proofs.total.total_program.Goals as goal

-- numbers whose sum is small are refused as a list
as_list : (ns : List ℕ) → nat_lt (sum ns) 65536 ≡ true → total_refusal ns ≡ list_refusal 1 ns 0
as_list ns small = ap (λ test. if test then list_refusal 1 ns 0 else Some Number) small

pub returns : goal.returns
returns c =
    let ns : List ℕ = c.args.numbers.now in
    let taken = c.in_ok-rows.ensures.ok in
    let small : nat_lt (sum ns) 65536 ≡ true =
    let is = c.has_small_sum.ensures in let test = c.if-not-has_small_sum.false in cc in
    let is : IsList 1 ns 0 = is_list 1 ns 0 taken in
    let gives = GivesProgram-written (as_list ns small ∙ taken) _ c.program_of_text.result _ (total_text ns)
    (ap (λ (t : Text). filled_text total_pieces (t ∷ [])) c.in_ok-rows.ensures.rows) c.program_of_text.ensures
    c.format.ensures.ok in
    record {
      is = gives;
      law = prints_as _ c.program_of_text.result gives
          (each_total ns is.all (ltb-true (sum ns) 65536 small) is.fits);
    }
