-- What more resumes change, and what a greater limit changes for `trace` and `parts` (this project's own rules).
use Rattle.std.specs.Prelude.{◌≡◌, ◌≢◌, ℕ, ◌≤◌, List, None}
use Rattle.ed_words.specs.Texts.{Text}
use Rattle.ed_run.specs.declared.settings.Settings.{Settings}
use Rattle.ed_lines.specs.declared.program.Line.{Line}
use Rattle.ed_tapes.specs.FirstOrders.{tape1_outcome}
use Rattle.ed_laws.specs.Limits.{EachLimit, StartsWith, with_limit}
use Rattle.ed_tapes.specs.Outcome.{Outcome}
use Rattle.ed_headline.specs.Sources.{run_outcome}
use Rattle.ed_tapes.specs.Tapes.{tape_outcome}
use Rattle.ed_streams.specs.Parts.{IsInParts}
use Rattle.ed_streams.specs.Traces.{letters_in, trace_outcome}

-- ---- more resumes

-- the answers of runs, by their settings: a run that doesn't end at a stop, which is status 0, has the same answer with
-- more resumes; and what a run without a post-mortem prints is the beginning of what it prints with more
pub record KeepsResumes (outcome : Settings → Outcome) (shown : Outcome → Text) : Type 0 where
  pub same : (s : Settings) (more : ℕ) → s.resumes ≤ more → (outcome s).status ≢ 0
      → outcome (record s { resumes = more }) ≡ outcome s
  pub begins : (s : Settings) (more : ℕ) → s.resumes ≤ more → s.post_mortem ≡ None
      → StartsWith (shown (outcome (record s { resumes = more }))) (shown (outcome s))

-- what is printed, and the letters of a trace
abbrev pub letters_of : Outcome → Text
letters_of o = letters_in o.out

-- the same for every tape, every tape of May 1949, every source and every trace
pub record EachResume : Type 0 where
  pub tapes : (codes : List ℕ) → KeepsResumes (λ s. tape_outcome s codes) (λ o. o.out)
  pub first_tapes : (codes : List ℕ) → KeepsResumes (λ s. tape1_outcome s codes) (λ o. o.out)
  pub sources : (lines : List Line) → KeepsResumes (λ s. run_outcome s lines) (λ o. o.out)
  pub traces : (codes : List ℕ) → KeepsResumes (λ s. trace_outcome s codes) letters_of

-- ---- a greater limit

-- a trace that doesn't end at its limit is the same with every greater limit; and its letters are the first ones of the
-- trace with a greater limit
pub record TraceKeepsLimits (codes : List ℕ) : Type 0 where
  pub same : (s : Settings) (more : ℕ) → s.limit ≤ more → (trace_outcome s codes).status ≢ 4
      → trace_outcome (with_limit more s) codes ≡ trace_outcome s codes
  pub begins : (s : Settings) (more : ℕ) → s.limit ≤ more
      → StartsWith (letters_of (trace_outcome (with_limit more s) codes)) (letters_of (trace_outcome s codes))

-- the same for the answers of `parts` with a limit and with a greater one
pub record PartsKeepLimits (codes : List ℕ) : Type 0 where
  pub same : (s : Settings) (more : ℕ) (o other : Outcome) → s.limit ≤ more → IsInParts s codes o
      → IsInParts (with_limit more s) codes other → o.status ≢ 4 → other ≡ o
  pub begins : (s : Settings) (more : ℕ) (o other : Outcome) → s.limit ≤ more → IsInParts s codes o
      → IsInParts (with_limit more s) codes other → StartsWith other.out o.out

-- the same for every tape, with what holds of other runs
pub record EachLimitIsKept : Type 0 where
  pub runs : EachLimit
  pub traces : (codes : List ℕ) → TraceKeepsLimits codes
  pub parts : (codes : List ℕ) → PartsKeepLimits codes
