-- The rows of the text that `step` steps through.
use Rattle.std.specs.Prelude.{ℕ, [], Result, Ok, Err, Vec}
use Rattle.std.specs.declared.alloc.Global.{Global}
use Rattle.ed_words.specs.Texts.{Text}
use Rattle.ed_run.specs.declared.settings.Settings.{Settings}
use Rattle.ed_tapes.specs.Answer.{of_made}
use Rattle.ed_tapes.specs.Replies.{Replies}
use Rattle.ed_tapes.specs.declared.reply.Rejection.{Rejection}
use Rattle.ed_stepper.specs.ScriptLines.{CommandList}
use Rattle.ed_stepper.specs.declared.inputs.TextKind.{TextKind}
use Rattle.ed_top.specs.Scripts.{OnText, on_rows}

-- the rows of the text after the dividing line, or the reply that refuses it, for every script
abbrev pub HasRows : Settings → TextKind → Text → Result (Vec ℕ Global) Rejection → Type 0
HasRows s kind text (Ok codes) =
    (commands : CommandList) → OnText s commands kind text (on_rows s commands codes.items)
HasRows s kind text (Err e) =
    (commands : CommandList) → Replies (of_made (OnText s commands kind text)) [] (Err e)
