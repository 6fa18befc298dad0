-- What a read takes from the bytes that a source has left, and what a write adds to those that a sink holds (this
-- project's own rule). A device that reveals its bytes has `Some` list of them; a device that doesn't has `None`.
use Rattle.std.specs.Prelude.{◌≡◌, ℕ, ◌<◌, ◌≤◌, List, [], ◌++◌, length, take}
use Rattle.std.specs.Prelude.{Option, None, Some, Result, IfOk, MatchResult}

-- the bytes left began with bs and have lost them; a source always reveals its bytes or never does
abbrev pub Loses : Option (List ℕ) → Option (List ℕ) → List ℕ → Type 0
Loses None None bs = Unit {0}
Loses None (Some ys) bs = ⊥
Loses (Some xs) None bs = ⊥
Loses (Some xs) (Some ys) bs = xs ≡ bs ++ ys

-- the bytes held have gained bs at their end; a sink that reveals its bytes now revealed them before
abbrev pub Gains : Option (List ℕ) → Option (List ℕ) → List ℕ → Type 0
Gains old None bs = Unit {0}
Gains None (Some ys) bs = ⊥
Gains (Some xs) (Some ys) bs = ys ≡ xs ++ bs

-- no byte is left, if the source reveals its bytes
abbrev pub IsAtEnd : Option (List ℕ) → Type 0
IsAtEnd None = Unit {0}
IsAtEnd (Some xs) = xs ≡ []

-- Ok(k): the next k bytes were handed over, and k is 0 only at the end or for an empty piece; Err: no byte was taken
abbrev pub Reads : {E : Type 0} → Option (List ℕ) → Option (List ℕ) → Result ℕ E → List ℕ → Type 0
Reads old new result piece = MatchResult result
    (λ k. Loses old new (take k piece) × (k ≡ 0 → 0 < length piece → IsAtEnd old))
    (λ _. Loses old new [])

-- Ok(k): the first k bytes of the piece were taken; Err: no byte was
abbrev pub Writes : {E : Type 0} → Option (List ℕ) → Option (List ℕ) → Result ℕ E → List ℕ → Type 0
Writes old new result piece = MatchResult result (λ k. Gains old new (take k piece)) (λ _. Gains old new [])

-- Ok(k): k is at most the length of the piece
abbrev pub IsWithin : {E : Type 0} → Result ℕ E → List ℕ → Type 0
IsWithin result piece = IfOk result (λ k. k ≤ length piece)

-- Ok(k): k is at least 1 for a piece that is not empty
abbrev pub TakesSome : {E : Type 0} → Result ℕ E → List ℕ → Type 0
TakesSome result piece = IfOk result (λ k. 0 < length piece → 0 < k)

-- the bytes held have gained the first bytes of a text
pub record GainsPart (old new : Option (List ℕ)) (text : List ℕ) : Type 0 where
  pub part : List ℕ
  pub rest : List ℕ
  pub whole : text ≡ part ++ rest
  pub gains : Gains old new part
