use Rattle.ed_programs.proofs.Kit.{refl, rules, mirror_text}
use Rattle.ed_programs.proofs.Capitals.{AreLetters, are_letters}
use Rattle.ed_programs.proofs.MirrorRuns.{each_word, text_is}
use Rattle.ed_programs.proofs.TapeRuns.{tape_prints_of}
use Rattle.ed_programs.proofs.Texts.{GivesProgram-written}
use Rattle.ed_programs.proofs.mirror.mirror_program.Goals as goal

pub returns-in_err-check_letters : goal.returns-in_err-check_letters
returns-in_err-check_letters c = record { is = search rules; law = search rules }

pub returns : goal.returns
returns c =
    let word : AreLetters 9 c.args.letters.now = are_letters 9 c.args.letters.now c.in_ok-check_letters.ensures.ok in
    let gives = GivesProgram-written refl _ c.program_of_text.result _ (mirror_text c.args.letters.now)
    (text_is c.args.letters.now) c.program_of_text.ensures c.format.ensures.ok in
    record {
      is = rw c.in_ok-check_letters.ensures.ok gives;
      law = tape_prints_of c.program_of_text.result gives (λ s. each_word s c.args.letters.now word);
    }
