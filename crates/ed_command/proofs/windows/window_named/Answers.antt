use Rattle.ed_command.proofs.Kit.{number, ap, arith, sym, ◌∙◌}
use Rattle.ed_command.proofs.Named.{cut_window, no_window}
use Rattle.ed_command.proofs.windows.window_named.Goals as goal

pub returns-in-None : goal.returns-in-None
returns-in-None c =
    let whole = c.in-None.ensures.byte (omega arith) (λ w o h. h) in sym (no_window _ _ whole)

pub returns-in-Some : goal.returns-in-Some
returns-in-Some c =
    let cut = c.in-Some.ensures.byte (omega arith) (λ w o h. h) in
    c.window.ensures ∙ sym (cut_window _ _ _ _
    (sym (c.number.ensures ∙ ap number (c.as_bytes.ensures.value ∙ cut.0)))
    (sym (c.number-in-Some.ensures ∙ ap number (c.as_bytes-in-Some.ensures.value ∙ cut.1))) cut.2)
