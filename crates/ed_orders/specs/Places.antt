-- How far a shift order shifts: by the position of the last digit 1 of its word (Wilkes, Wheeler and Gill 1951).
use Rattle.std.specs.Prelude.{◌≡◌, ℕ, ◌+◌, ◌-◌, ◌/◌, ◌%◌, ◌^◌, ◌<◌}
use Rattle.std.specs.Int.{w32, trailing_zeros}

-- 1 plus the position of a word's least significant digit 1, counted from 0, as `IsPlaces` says
unfoldable pub places : ℕ → ℕ
places w = trailing_zeros w32 w + 1

-- p is 1 plus the least i for which the whole part of w / 2^i is odd
pub record IsPlaces (w p : ℕ) : Type 0 where
  pub odd : w / 2 ^ (p - 1) % 2 ≡ 1
  pub least : (i : ℕ) → i < p - 1 → w / 2 ^ i % 2 ≡ 0
