-- The answer of `call` (this project's own rule).
use Rattle.ed_library.specs.declared.call.Call.{Call}
use Rattle.ed_sources.specs.CallSources.{call_text}
use Rattle.ed_words.specs.Texts.{Text}
use Rattle.ed_run.specs.declared.settings.Settings.{Settings}
use Rattle.ed_tapes.specs.Answer.{Answer, of_made}
use Rattle.ed_headline.specs.Sources.{OfSource, run_outcome}

-- the program makes a source, and its answer is the run of the source
abbrev pub of_made_source : Settings → Text → Answer
of_made_source s text = of_made (OfSource s.size (run_outcome s) text)

-- `call`: the run of its source
abbrev pub call_answer : Call → Settings → Answer
call_answer call s = of_made_source s (call_text call)
