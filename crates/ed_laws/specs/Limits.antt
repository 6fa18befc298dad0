-- What a greater limit changes (this project's own rules): nothing, if the run ended before its limit; else the run
-- continues from the state in which it was cut off.
use Rattle.std.specs.Prelude.{◌≡◌, ◌≢◌, ℕ, ◌≤◌, List, ◌++◌, None}
use Rattle.ed_lines.specs.declared.program.Line.{Line}
use Rattle.ed_words.specs.Texts.{Text}
use Rattle.ed_run.specs.declared.settings.Settings.{Settings}
use Rattle.ed_tapes.specs.Outcome.{Outcome}
use Rattle.ed_tapes.specs.FirstOrders.{tape1_outcome}
use Rattle.ed_tapes.specs.Tapes.{tape_outcome}
use Rattle.ed_headline.specs.Sources.{run_outcome}

-- the same settings with another limit
abbrev pub with_limit : ℕ → Settings → Settings
with_limit n s = record s { limit = n }

-- a text begins with another one
abbrev pub StartsWith : Text → Text → Type 0
StartsWith whole part = (rest : Text) × (whole ≡ part ++ rest)

-- the answers of runs, by their settings: a run that doesn't end at its limit, which is status 4, has the same answer
-- with every greater limit; and the text that a run prints is the beginning of what it prints with a greater limit
pub record KeepsLimits (outcome : Settings → Outcome) : Type 0 where
  pub same : (s : Settings) (more : ℕ) → s.limit ≤ more → (outcome s).status ≢ 4
      → outcome (with_limit more s) ≡ outcome s
  pub begins : (s : Settings) (more : ℕ) → s.limit ≤ more → s.post_mortem ≡ None
      → StartsWith (outcome (with_limit more s)).out (outcome s).out

-- the same for every tape, every tape of May 1949, and every source, those that the program makes included
pub record EachLimit : Type 0 where
  pub tapes : (codes : List ℕ) → KeepsLimits (λ s. tape_outcome s codes)
  pub first_tapes : (codes : List ℕ) → KeepsLimits (λ s. tape1_outcome s codes)
  pub sources : (lines : List Line) → KeepsLimits (λ s. run_outcome s lines)
