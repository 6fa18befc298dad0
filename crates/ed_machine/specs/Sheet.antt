-- Paper: the codes printed so far, and the most codes that it holds.
use Rattle.std.specs.Prelude.{ℕ, List}

-- the paper of a teleprinter
pub record Sheet : Type 0 where
  pub codes : List ℕ
  pub room : ℕ
