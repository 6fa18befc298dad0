use Rattle.std.proofs.Common.{◌≡◌, ◌∙◌, ◌++◌, ◌∷◌, [], ap, arith, sym}
use Rattle.std.specs.Prelude.{slice_index}
use Rattle.std.proofs.lemmas.List.{drop_all}
use Rattle.ed_printer.specs.Paper.{bytes_of, struck_bytes}
use Rattle.ed_printer.proofs.Silent.{plain_keeps_shift}
use Rattle.ed_printer.proofs.Texts.{code_printed}
use Rattle.ed_printer.proofs.printer.Printer.text_of.Goals.{then-is_plain, else-is_plain}
use Rattle.ed_printer.proofs.printer.Printer.text_of.Goals as goal

pub loop-code-preserved : goal.loop-code-preserved
loop-code-preserved c =
    let here = c.loop-code in
    let code = c.code-item.result in
    let character = slice_index here.characters.now c.from.result in
    let same : c.from.result ≡ code = c.from.ensures ∙ c.value.ensures.is in
    let bytes : bytes_of character ≡ struck_bytes here.shift code =
    here.invariant.characters c.from.result (omega arith) ∙ ap (struck_bytes here.shift) same in
    elim c.if-is_plain.branch [
      | then-is_plain w ↦ let plain : bytes_of character ≡ character ∷ [] = w.if-is_plain.ensures in
          let stays = w.shift-is ∙ plain_keeps_shift here.shift code character bytes plain in record {
            printed = code_printed _ here.shift _ _ here.text.items _ _ code c.loop-code-test.true c.code-item.is
                (ap (λ v. v.items) w.text-is ∙ w.push_reserved.ensures.items
                ∙ ap (λ b. here.text.items ++ b) (sym plain ∙ bytes))
                stays here.invariant.printed;
            characters = λ k below. rw (w.characters-is, w.shift-is) (here.invariant.characters k below);
            room = rw w.text-is (omega arith);
          }
      | else-is_plain w ↦ record {
        printed = code_printed _ here.shift _ _ here.text.items _ _ code c.loop-code-test.true c.code-item.is
            (ap (λ v. v.items) w.text-is ∙ w.push_character.ensures.text ∙ ap (λ b. here.text.items ++ b) bytes)
            (w.shift-is ∙ w.after-shift.ensures) here.invariant.printed;
        characters = λ k below. rw w.characters-is
            (rw w.shift-is (w.characters-characters-else-is_plain.ensures k below));
        room = rw w.text-is (omega arith);
      }
    ]

pub returns-clause-text : goal.returns-clause-text
returns-clause-text c rest =
    let printed = c.loop-code.invariant.printed rest in
    rw (c.self.view_is) at (rw (drop_all c.loop-code.code-index c.args.codes.now c.loop-code-test.false) at printed)
