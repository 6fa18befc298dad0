use Rattle.ed_machine.proofs.Names.{take, ◌++◌, ap, sym, ◌∙◌, State}
use Rattle.std.proofs.Common.{Vec}
use Rattle.std.specs.declared.alloc.Global.{Global}
use Rattle.std.proofs.lemmas.List.{take-append-drop}
use Rattle.ed_codes.specs.declared.code.Code.{Code}
use Rattle.ed_machine.proofs.machine.Machine.start.Goals as goal

pub returns-clause-old_rows : goal.returns-clause-old_rows
returns-clause-old_rows c =
    let m = c.self.inside in
    record {
      before = take m.row m.tape.items;
      whole =
          ap (λ (v : Vec Code Global). v.items) c.replace.ensures.value
          ∙ sym (take-append-drop m.row m.tape.items)
          ∙ ap (λ (s : State). take m.row m.tape.items ++ s.tape) c.self.view_is;
    }
