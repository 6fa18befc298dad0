-- Devices over memory, as contracts see them (this project's own rule).
use Rattle.std.specs.Prelude.{ℕ, List, [], Bool, false, Option, Some, None, if◌then◌else◌}

-- a source: the bytes left, the most that a read hands over, the numbers of the calls that fail, the number of the
-- next call, and how many calls have failed
pub record Supply : Type 0 where
  pub left : List ℕ
  pub most : ℕ
  pub failing : List ℕ
  pub call : ℕ
  pub faults : ℕ

-- a source before its first call
abbrev pub new_supply : List ℕ → List ℕ → ℕ → Supply
new_supply bytes failing most = record { left = bytes; most = most; failing = failing; call = 0; faults = 0 }

-- a sink: the bytes held, the most that it has room for, the most that a write takes, the numbers of the calls that
-- fail, the number of the next call, and how many calls have failed
pub record Page : Type 0 where
  pub held : List ℕ
  pub room : ℕ
  pub most : ℕ
  pub failing : List ℕ
  pub call : ℕ
  pub faults : ℕ

-- a sink before its first call
abbrev pub new_page : ℕ → List ℕ → ℕ → Page
new_page room failing most = record { held = []; room = room; most = most; failing = failing; call = 0; faults = 0 }

-- a sink that never fails: the first bytes of all that it took, how many of them it keeps, and whether it took more
pub record Roll : Type 0 where
  pub held : List ℕ
  pub room : ℕ
  pub is_over : Bool

-- a sink that never fails, before its first call
abbrev pub new_roll : ℕ → Roll
new_roll room = record { held = []; room = room; is_over = false }

-- its bytes, as long as it has taken no more than it keeps
abbrev pub reported_bytes : Roll → Option (List ℕ)
reported_bytes r = if r.is_over then None else Some r.held
