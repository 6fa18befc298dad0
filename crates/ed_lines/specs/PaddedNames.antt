-- How a name lies in memory (this project's own rule).
use Rattle.std.specs.Prelude.{◌≡◌, ℕ, ◌-◌, ◌<◌, ◌≤◌, List, ◌++◌, length, take, replicate, IsUtf8}

-- the bytes of a name in an array of 16, padded with 0
abbrev pub padded_name : List ℕ → List ℕ
padded_name text = text ++ replicate (16 - length text) 0

-- the first n of 16 bytes are a text, and the others are 0
pub record IsPadded (bytes : List ℕ) (n : ℕ) : Type 0 where
  pub some : 0 < n
  pub few : n ≤ 16
  pub size : length (take n bytes) ≡ n
  pub zeros : padded_name (take n bytes) ≡ bytes
  pub text : ∥ IsUtf8 (take n bytes) ∥₁
