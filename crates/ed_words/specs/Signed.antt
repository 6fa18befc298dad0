-- Two's complement.
use Rattle.std.specs.Prelude.{ℕ, ◌-◌, ◌^◌, nat_lt, if◌then◌else◌, ℤ, pos, ◌-ℤ◌}

-- n binary digits read as a signed number
abbrev pub signed : ℕ → ℕ → ℤ
signed n x = if nat_lt x (2 ^ (n - 1)) then pos x else (pos x -ℤ pos (2 ^ n))
