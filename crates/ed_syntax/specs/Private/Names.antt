-- The texts that are names.
use Rattle.std.specs.Prelude.{ℕ, ◌<◌, ◌≤◌, List, length, IsUtf8}

-- a text of 1 to 16 bytes
pub record IsNameText (text : List ℕ) : Type 0 where
  pub some : 0 < length text
  pub few : length text ≤ 16
  pub utf8 : IsUtf8 text
