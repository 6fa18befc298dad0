-- The lines of a text (this project's own rule).
use Rattle.std.specs.Prelude.{◌≡◌, ℕ, ◌==◌, ◌&&◌, Bool, false, List, [], ◌∷◌, ◌++◌, if◌then◌else◌}
use Rattle.std.specs.List.{list_any}
use Rattle.ed_words.specs.Texts.{Text}

-- whether a line feed (10) is among the bytes
abbrev pub has_end : Text → Bool
has_end bytes = list_any (λ b. b == 10) bytes

-- the line without a carriage return (13) at its end
abbrev pub without_return : Text → Text
without_return [] = []
without_return (b ∷ []) = if b == 13 then [] else b ∷ []
without_return (b ∷ c ∷ bs) = b ∷ without_return (c ∷ bs)

-- The text has these lines. A line ends at a line feed (10). A carriage return just before a line feed belongs to the
-- end of its line. A last line without an end counts if it isn't empty.
pub data HasLines : Text → List Text → Type 0 where
  nothing : HasLines [] []
  last : (b : ℕ) (bs : Text) → has_end (b ∷ bs) ≡ false → HasLines (b ∷ bs) ((b ∷ bs) ∷ [])
  ended : (line text : Text) (lines : List Text) → has_end line ≡ false → HasLines text lines
      → HasLines (line ++ 10 ∷ text) (without_return line ∷ lines)

-- a byte before the first line
abbrev pub with_byte : ℕ → List Text → List Text
with_byte b [] = (b ∷ []) ∷ []
with_byte b (line ∷ rest) = (b ∷ line) ∷ rest

-- the lines of a text, computed from the left
abbrev pub lines_of : Text → List Text
lines_of [] = []
lines_of (b ∷ []) = if b == 10 then [] ∷ [] else (b ∷ []) ∷ []
lines_of (b ∷ c ∷ bs) = if b == 10 then [] ∷ lines_of (c ∷ bs)
    else if b == 13 && c == 10 then [] ∷ lines_of bs
    else with_byte b (lines_of (c ∷ bs))
