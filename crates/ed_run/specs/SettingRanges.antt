-- The ranges of the numbers that the settings of a run have (this project's own rule).
use Rattle.std.specs.Prelude.{ℕ, ◌+◌, ◌≤◌, IfSome}
use Rattle.ed_words.specs.Sizes.{locations}
use Rattle.ed_words.specs.declared.size.Size.{Size}
use Rattle.ed_run.specs.declared.settings.Settings.{Settings}
use Rattle.ed_run.specs.declared.settings.Window.{Window}

-- a number from `least` to `most`
abbrev pub IsFromTo : ℕ → ℕ → ℕ → Type 0
IsFromTo least most n = (least ≤ n) × (n ≤ most)

-- locations from 144 to the end of a store
abbrev pub IsWindowOf : Size → Window → Type 0
IsWindowOf z w = (144 ≤ w.first) × (w.first + w.count ≤ locations z)

-- the numbers of the settings
pub record AreSettingsInRange (s : Settings) : Type 0 where
  pub limit : IsFromTo 1 100000000 s.limit
  pub resumes : s.resumes ≤ 1000
  pub window : IfSome s.post_mortem (IsWindowOf s.size)
