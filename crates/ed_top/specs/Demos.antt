-- The answer of `demo` (this project's own rule).
use Rattle.std.specs.Prelude.{ℕ}
use Rattle.ed_run.specs.declared.settings.Settings.{Settings}
use Rattle.ed_sources.specs.DemoSources.{demo_text}
use Rattle.ed_tapes.specs.Answer.{Answer}
use Rattle.ed_top.specs.Calls.{of_made_source}

-- `demo`: the run of its source
abbrev pub demo_answer : ℕ → Settings → Answer
demo_answer n s = of_made_source s (demo_text n)
