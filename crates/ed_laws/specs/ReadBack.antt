-- What a post-mortem shows of the words that it prints: every digit of them (this project's own rule).
use Rattle.std.specs.Prelude.{◌≡◌, ℕ, ◌+◌, ◌<◌, ◌≤◌, Some}
use Rattle.ed_store.specs.Cells.{short_at}
use Rattle.ed_machine.specs.State.{State}
use Rattle.ed_run.specs.declared.settings.Window.{Window}
use Rattle.ed_tapes.specs.Runs.{post_mortem_codes}

-- if post-mortems of two states print the same codes, the states have the same words at the locations of the window;
-- the same holds for the states in which two runs end
abbrev pub EachWordIsReadBack : Type 0
EachWordIsReadBack =
    (w : Window) (s t : State) → post_mortem_codes (Some w) s ≡ post_mortem_codes (Some w) t
    → (a : ℕ) → w.first ≤ a → a < w.first + w.count → short_at s.store a ≡ short_at t.store a
