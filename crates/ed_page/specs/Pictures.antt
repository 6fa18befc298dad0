-- What the buffers of a picture hold: the words and digits of a store, and the registers (this project's own rules).
use Rattle.std.specs.Prelude.{◌≡◌, ℕ, ◌*◌, ◌/◌, ◌%◌, ◌^◌, ◌<◌, Bool, true, false}
use Rattle.std.specs.Prelude.{List, length, slice_index, Option, Some, None}
use Rattle.ed_words.specs.Words.{digit}
use Rattle.ed_words.specs.declared.size.Size.{Size}
use Rattle.ed_words.specs.declared.size.Size.TheVariants.{Small, Full}
use Rattle.ed_store.specs.Cells.{Cells, short_at, sandwich_at}
use Rattle.ed_machine.specs.State.{State}
use Rattle.ed_run.specs.declared.settings.Settings.{Settings}
use Rattle.ed_page.specs.declared.writing.Registers.{Registers}

-- 512 locations or 1,024
abbrev pub size_shown : Bool → Size
size_shown true = Small
size_shown false = Full

-- the settings of a run that is shown: its limit of orders, its resumes, and no post-mortem
abbrev pub run_settings : Bool → ℕ → ℕ → Settings
run_settings small orders resumes = record { limit = orders; resumes = resumes; size = size_shown small; post_mortem = None }

-- the words of all locations, and the sandwich digits of all pairs
pub record PicturesStore (c : Cells) (words digits : List ℕ) : Type 0 where
  pub words_are : (a : ℕ) → a < 1024 → slice_index words a ≡ short_at c a
  pub digits_are : (k : ℕ) → k < 512 → slice_index digits k ≡ digit (sandwich_at c (2 * k))

-- the last printed code, or 32, which is not a code, if nothing was printed
abbrev pub last_shown : Option ℕ → ℕ
last_shown (Some code) = code
last_shown None = 32

-- the registers of a state, the accumulator in two parts
pub record PicturesRegisters (s : State) (r : Registers) : Type 0 where
  pub acc_low : r.acc_low ≡ s.acc % 2 ^ 36
  pub acc_high : r.acc_high ≡ s.acc / 2 ^ 36
  pub multiplier : r.multiplier ≡ s.multiplier
  pub orders : r.orders ≡ s.orders
  pub rows_left : r.rows_left ≡ length s.tape
  pub counter : r.counter ≡ s.counter
  pub last : r.last ≡ last_shown s.last

-- a state
pub record Pictures (s : State) (words digits : List ℕ) (r : Registers) : Type 0 where
  pub store : PicturesStore s.store words digits
  pub registers : PicturesRegisters s r
