-- Streams of std, as contracts see them (this project's own rule). std says what a read or a write does to known bytes;
-- it does not say that unknown bytes stay unknown, which `Alike` requires of the type of a reader or a writer.
use Rattle.std.specs.Prelude.{ℕ, List, Option, None, Some, nat_lt, if◌then◌else◌}

-- a stream: the bytes that it reports, if it reports any, and how many calls have failed
pub record Stream : Type 0 where
  pub known : Option (List ℕ)
  pub faults : ℕ

-- the known bytes as long as no call has failed
abbrev pub unless_failed : ℕ → Option (List ℕ) → Option (List ℕ)
unless_failed faults bytes = if nat_lt 0 faults then None else bytes

-- two values of one type: if the first reports no bytes, neither does the second
abbrev pub Alike : Option (List ℕ) → Option (List ℕ) → Type 0
Alike None (Some ys) = ⊥
Alike None None = Unit {0}
Alike (Some xs) other = Unit {0}
