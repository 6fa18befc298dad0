-- The commands for tapes answer to the text that `punch` writes as on the source.
use Rattle.ed_laws.proofs.Kit.{Settings, Line, ap, inl, inr, List, replicate, sym, ℕ, ◌∙◌, ◌≡◌, Text, reading, tape}
use Rattle.ed_laws.proofs.Kit.{Outcome, IsAcceptedAs, OfSource, punch_outcome}
use Rattle.ed_top.proofs.Kit.{CommandList, on_rows, OnText}
use Rattle.std.proofs.lemmas.List.{length-replicate}
use Rattle.ed_link.specs.Tapes.{arrival}
use Rattle.ed_headline.proofs.EachSource.{each_source as comes_to, one_answer}
use Rattle.ed_laws.proofs.PunchedTapes.{each_punched_is_run}
use Rattle.ed_headline.proofs.PunchedTexts.{text_is_tape}
use Rattle.ed_top.specs.Scripts.{on_reading}
use Rattle.ed_laws.specs.PunchedTexts.{EachPunchedTextIsSource}
use Rattle.ed_laws.proofs.PunchedBytes.{punched_short}
use Rattle.ed_laws.proofs.TapeEntries.{tapes_run_from_entry}
use Rattle.ed_stepper.specs.declared.inputs.TextKind.TheVariants as kinds

module _ (s : Settings) (source : Text) (lines : List Line) (accepted : IsAcceptedAs s.size source lines)
    (commands : CommandList) (o : Outcome) where
  -- the script on the rows of the text is that on the source's tape
  same : on_reading s commands (reading (punch_outcome lines).out)
      ≡ on_rows s commands (tape lines)
  same = ap (on_reading s commands) (text_is_tape s.size source lines accepted)

  to_source : OnText s commands kinds.Tape (punch_outcome lines).out o → OnText s commands kinds.Source source o
  to_source is = inr (lines, accepted, sym same ∙ is)

  to_tape : OfSource s.size (λ ls. on_rows s commands (tape ls)) source o
      → OnText s commands kinds.Tape (punch_outcome lines).out o
  to_tape (inl (k, c, refused, is)) = absurd (one_answer.never_both s.size source lines k c accepted refused)
  to_tape (inr (others, also, is)) =
      same
      ∙ ap (λ (ls : List Line). on_rows s commands (tape ls))
      (one_answer.one_program s.size source lines others accepted also)
      ∙ is

pub each_punched_text_is_source : EachPunchedTextIsSource
each_punched_text_is_source s source lines accepted =
    let loads = comes_to s.size source lines accepted (replicate 1024 0) (length-replicate {A = ℕ} 1024 0) in
    record {
      short = punched_short s.size source lines accepted;
      run = each_punched_is_run s source lines accepted;
      stepped = λ commands o.
          (to_source s source lines accepted commands o, to_tape s source lines accepted commands o);
      entered = tapes_run_from_entry s (tape lines) (arrival (replicate 1024 0) lines) loads.0 loads.1;
    }
