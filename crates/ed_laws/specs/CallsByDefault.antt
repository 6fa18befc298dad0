-- What `call` answers without an option, for every call with its numbers in range (this project's own rule).
use Rattle.std.specs.Prelude.{◌≡◌, ◌+◌, ◌≤◌, List, [], None, Some}
use Rattle.ed_words.specs.declared.size.Size.TheVariants.{Full}
use Rattle.ed_run.specs.declared.settings.Settings.{Settings}
use Rattle.ed_library.specs.declared.call.Call.{Call}
use Rattle.ed_library.specs.CallRanges.{IsCallInRange}
use Rattle.ed_lines.specs.declared.program.Line.{Line}
use Rattle.ed_link.specs.Tapes.{cost}
use Rattle.ed_tapes.specs.Answer.{IsDue}
use Rattle.ed_headline.specs.Refusals.{IsAcceptedAs}
use Rattle.ed_sources.specs.CallSources.{call_text}
use Rattle.ed_sources.specs.Costs.{call_cost}
use Rattle.ed_sources.specs.CallRuns.{EachMostIsTaken, call_orders, call_outcome, most_call_orders}
use Rattle.ed_command.specs.Settings.{options_by, settings_of}
use Rattle.ed_top.specs.Calls.{call_answer}

-- the settings if no option is given
abbrev pub usual_settings : Settings
usual_settings = record { limit = 10000000; resumes = 0; size = Full; post_mortem = None }

-- the answer to a call without an option: its text, its exact note, and the status 0
pub record CallEnds (call : Call) : Type 0 where
  pub lines : List Line
  pub accepted : IsAcceptedAs Full (call_text call) lines
  pub costs : cost lines ≡ call_cost call
  pub few : cost lines + call_orders call ≤ most_call_orders call
  pub due : IsDue (call_answer call usual_settings) [] (call_outcome Full lines call)

-- the same for each call with its numbers in range; and a call of each routine takes the greatest number of orders
pub record CallsByDefault : Type 0 where
  pub usual : settings_of (options_by (λ name. [])) ≡ Some usual_settings
  pub each : (call : Call) → IsCallInRange call → CallEnds call
  pub most : EachMostIsTaken
