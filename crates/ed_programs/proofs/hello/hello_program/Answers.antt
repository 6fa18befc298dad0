use Rattle.ed_programs.proofs.Kit.{[], ap, arith, decimal, length, rules, suc, ◌+◌, ◌∷◌, ◌≡◌, Text, filled_text}
use Rattle.ed_programs.proofs.Kit.{hello_text, of_letters, prints_as}
use Rattle.ed_programs.proofs.Capitals.{AreLetters, are_letters}
use Rattle.ed_programs.proofs.HelloRuns.{each_name, each_text, hello_pieces}
use Rattle.ed_programs.proofs.Texts.{GivesProgram-written}
use Rattle.ed_programs.proofs.hello.hello_program.Goals as goal

pub returns-in_err-check_letters : goal.returns-in_err-check_letters
returns-in_err-check_letters c = record { is = search rules; law = search rules; texts = each_text }

pub returns : goal.returns
returns c =
    let letters : Text = c.args.letters.now in
    let rows : length letters + 1 ≡ suc (length letters) = omega arith in
    let are : AreLetters 40 letters = are_letters 40 letters c.in_ok-check_letters.ensures.ok in
    let gives = GivesProgram-written c.in_ok-check_letters.ensures.ok _ c.program_of_text.result _
    (hello_text (of_letters letters))
    (ap (λ n. filled_text hello_pieces (decimal n ∷ of_letters letters ∷ [])) rows)
    c.program_of_text.ensures c.format.ensures.ok in
    record {
      is = gives;
      law = prints_as _ c.program_of_text.result gives (each_name letters are.some are.few are.capital);
      texts = each_text;
    }
