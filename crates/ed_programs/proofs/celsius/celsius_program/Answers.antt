use Rattle.ed_programs.proofs.Kit.{[], ap, List, ℕ, ◌∷◌, Text, filled_text, celsius_text, all_fit, prints_as}
use Rattle.ed_programs.proofs.CelsiusRuns.{each_celsius, celsius_pieces}
use Rattle.ed_programs.proofs.NumberLists.{IsList, is_list}
use Rattle.ed_programs.proofs.Texts.{GivesProgram-written}
use Rattle.ed_programs.proofs.celsius.celsius_program.Goals as goal

pub returns : goal.returns
returns c =
    let ns : List ℕ = c.args.temperatures.now in
    let end : ℕ = c.args.end in
    let taken = c.in_ok-rows.ensures.ok in
    let is : IsList 32 ns end = is_list 32 ns end taken in
    let gives = GivesProgram-written taken _ c.program_of_text.result _ (celsius_text ns end)
    (ap (λ (t : Text). filled_text celsius_pieces (t ∷ [])) c.in_ok-rows.ensures.rows) c.program_of_text.ensures
    c.format.ensures.ok in
    record {
      is = gives;
      law = prints_as _ c.program_of_text.result gives
          (each_celsius ns end (all_fit ns c.type_inv.temperatures) is.all is.low is.fits);
    }
