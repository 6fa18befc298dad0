-- The post-mortem of a state that a picture shows, as the page gets it (this project's own rules).
use Rattle.std.specs.Prelude.{◌≡◌, ◌≢◌, ℕ, ◌≤◌, Some, List, length}
use Rattle.ed_words.specs.declared.size.Size.{Size}
use Rattle.ed_machine.specs.State.{State}
use Rattle.ed_run.specs.SettingRanges.{IsWindowOf}
use Rattle.ed_run.specs.declared.settings.Window.{Window}
use Rattle.ed_tapes.specs.Runs.{post_mortem_codes}
use Rattle.ed_page.specs.Answers.{HasItsCause, Holds}

-- the buffer of codes and their number
pub record CodeBuffer : Type 0 where
  pub codes : List ℕ
  pub printed : ℕ

-- a buffer and a number as one
abbrev pub code_buffer : List ℕ → ℕ → CodeBuffer
code_buffer codes printed = record { codes = codes; printed = printed }

-- the codes that a post-mortem prints of a state were written at the head of a buffer, with their number, and the answer
-- is 0; or there was no memory (10) or no room (12), and nothing was written
pub record IsWindowWritten (w : Window) (s : State) (before after : CodeBuffer) (answer : ℕ) : Type 0 where
  pub memory : answer ≡ 10 → after ≡ before
  pub told : answer ≢ 10 → HasItsCause (length (post_mortem_codes (Some w) s) ≤ length before.codes) (after ≡ before)
      (Holds (post_mortem_codes (Some w) s) before.codes after.codes after.printed × (answer ≡ 0)) answer

-- what is answered on a machine of a size: 3 if the window is not within its store, and then nothing is written; otherwise
-- never 3
pub record IsPostMortemWritten (z : Size) (w : Window) (s : State) (before after : CodeBuffer) (answer : ℕ) :
    Type 0 where
  pub refused : (IsWindowOf z w → ⊥) → (answer ≡ 3) × (after ≡ before)
  pub told : IsWindowOf z w → IsWindowWritten w s before after answer
