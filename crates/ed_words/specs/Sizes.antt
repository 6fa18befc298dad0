-- The size of a store, 512 or 1,024 locations (this project's own rule), and addresses modulo the size.
use Rattle.std.specs.Prelude.{◌≡◌, ℕ, ◌%◌, nat_lt, if◌then◌else◌}
use Rattle.ed_words.specs.declared.size.Size.{Size}
use Rattle.ed_words.specs.declared.size.Size.TheVariants.{Small, Full}

-- the number of locations that orders reach
abbrev pub locations : Size → ℕ
locations Small = 512
locations Full = 1024

-- a number modulo the size, as `WithinIsModulo` says; a number below 512 is itself whatever the size
abbrev pub within : Size → ℕ → ℕ
within z n = if nat_lt n 512 then n else n % locations z

-- `within` is the remainder modulo the size
abbrev pub WithinIsModulo : Type 0
WithinIsModulo = (z : Size) (n : ℕ) → within z n ≡ n % locations z
