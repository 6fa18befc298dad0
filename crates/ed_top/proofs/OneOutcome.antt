-- For all words, each input has exactly one outcome.
use Rattle.ed_top.proofs.Kit.{Settings, one_lines, HasOneOutcome, of_input, usage_outcome, ap, inl, inr, None, refl}
use Rattle.ed_top.proofs.Kit.{Some, subst, sym, ◌∙◌, ◌≡◌, Text, tape, done, Outcome, refusal, run_outcome, exactly_one}
use Rattle.ed_top.proofs.Kit.{some_outcome, CommandList, TextKind, Input, call_text, demo_text, answer, on_rows}
use Rattle.ed_top.proofs.Kit.{OnInput, OnText, StepOutcome, trace_outcome}
use Rattle.ed_headline.proofs.Kit.{tape1_outcome, listing_outcome, punch_outcome, tape_outcome}
use Rattle.ed_command.specs.declared.command.Action.{Action}
use Rattle.ed_command.specs.declared.command.Action.TheVariants.{Tape, CheckTape, Run, Punch, Listing, Library, Demo}
use Rattle.ed_command.specs.declared.command.Action.TheVariants.{Call as CallOf, Tape1, CheckTape1, Step, Trace, Parts}
use Rattle.ed_report.specs.Catalogue.{library_text}
use Rattle.ed_report.specs.Notes.{bad_command_line}
use Rattle.ed_tapes.proofs.Checks.{checked_one}
use Rattle.ed_tapes.proofs.FirstChecks.{checked1_one}
use Rattle.ed_headline.proofs.OneOutcome.{made_once, source_once}
use Rattle.ed_tapes.proofs.OneOutcome.{known_once, rows_once, some_within, within_once}
use Rattle.ed_headline.proofs.Sources.{source_outcome}
use Rattle.ed_stepper.proofs.InputLaws.{one_input}
use Rattle.ed_stepper.proofs.ScriptLaws.{one_meaning}
use Rattle.ed_top.specs.Output.{EachLineHasOneOutcome}
use Rattle.ed_streams.proofs.InParts.{parts_one}
use Rattle.ed_stepper.specs.declared.inputs.TextKind.TheVariants as kinds
use Rattle.std.proofs.Common.{rules}

-- ---- a script and what follows it

pub text_some : (s : Settings) (commands : CommandList) (kind : TextKind) (text : Text) → (o : Outcome)
    × OnText s commands kind text o
text_some s commands kinds.Tape text = (_, refl)
text_some s commands kinds.Source text = some_outcome s.size (λ lines. on_rows s commands (tape lines)) text

text_same : (s : Settings) (commands : CommandList) (kind : TextKind) (text : Text) (o other : Outcome)
    → OnText s commands kind text o → OnText s commands kind text other → o ≡ other
text_same s commands kinds.Tape text o other p q = sym p ∙ q
text_same s commands kinds.Source text o other p q = search (rules, source_outcome)

pub input_some : (s : Settings) (i : Input) → (o : Outcome) × OnInput s i o
input_some s i =
    elim (one_meaning.every i.script) [
      | inl g ↦ let t = text_some s g.0 i.kind i.text in (t.0, inr (g.0, g.1, t.1))
      | inr b ↦ (refusal (bad_command_line b.0), inl (b.0, b.1, refl))
    ]

input_same : (s : Settings) (i : Input) (o other : Outcome) → OnInput s i o → OnInput s i other → o ≡ other
input_same s i o other (inl a) (inl b) =
    sym a.2 ∙ ap (λ n. refusal (bad_command_line n)) (one_meaning.one_bad_line i.script a.0 b.0 a.1 b.1) ∙ b.2
input_same s i o other (inl a) (inr b) = absurd (one_meaning.never_both i.script b.0 a.0 b.1 a.1)
input_same s i o other (inr a) (inl b) = absurd (one_meaning.never_both i.script a.0 b.0 a.1 b.1)
input_same s i o other (inr a) (inr b) =
    let same = one_meaning.one_script i.script a.0 b.0 a.1 b.1 in
    text_same s b.0 i.kind i.text o other (subst (λ cs. OnText s cs i.kind i.text o) same a.2) b.2

step_some : (s : Settings) (input : Text) → (o : Outcome) × StepOutcome s input o
step_some s input =
    elim (one_input.every input) [
      | inl u ↦ (_, inl (u.0, u.1, refl))
      | inr d ↦ let o = input_some s d.0 in (o.0, inr (d.0, d.1, o.1))
    ]

step_same : (s : Settings) (input : Text) (o other : Outcome) → StepOutcome s input o
    → StepOutcome s input other → o ≡ other
step_same s input o other (inl a) (inl b) = search (rules, one_lines)
step_same s input o other (inl a) (inr b) = absurd (one_input.never_both input a.0 b.0 a.1 b.1)
step_same s input o other (inr a) (inl b) = absurd (one_input.never_both input b.0 a.0 b.1 a.1)
step_same s input o other (inr a) (inr b) =
    let same = one_input.one_division input a.0 b.0 a.1 b.1 in
    input_same s b.0 o other (subst (λ i. OnInput s i o) same a.2) b.2

step_once : (s : Settings) → HasOneOutcome (of_input (StepOutcome s))
step_once s = record {
  some = λ input. let o = step_some s input in some_within (StepOutcome s) input o.0 o.1;
  once = λ input o other. within_once (StepOutcome s) input o other (step_same s input o other);
}

-- ---- every line of words

pub answer_once : (action : Action) (s : Settings) → HasOneOutcome (answer action s)
answer_once Tape s = rows_once _ (exactly_one (tape_outcome s))
answer_once CheckTape s = rows_once _ (checked_one s)
answer_once Run s = source_once s.size (run_outcome s)
answer_once Punch s = source_once s.size punch_outcome
answer_once Listing s = source_once s.size listing_outcome
answer_once (CallOf call) s = made_once s.size (run_outcome s) (call_text call)
answer_once Library s = known_once (done library_text)
answer_once (Demo n) s = made_once s.size (run_outcome s) (demo_text n)
answer_once Tape1 s = rows_once _ (exactly_one (tape1_outcome s))
answer_once CheckTape1 s = rows_once _ checked1_one
answer_once Step s = step_once s
answer_once Trace s = rows_once _ (exactly_one (trace_outcome s))
answer_once Parts s = rows_once _ (parts_one s)

pub line_once : EachLineHasOneOutcome
line_once None = known_once usage_outcome
line_once (Some command) = answer_once command.action command.settings
