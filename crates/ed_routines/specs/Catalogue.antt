-- The routines by their names, and the preset parameters with which they are used (this project's own).
use Rattle.std.specs.Prelude.{ℕ, ◌*◌, List, [], ◌∷◌, codes, unwrap_or}
use Rattle.ed_library.specs.Routines.{find}

-- the routine of a name
abbrev pub routine_named : List ℕ → ℕ
routine_named name = unwrap_or (find name) 0

-- the routine `newline`
abbrev pub newline : ℕ
newline = routine_named (codes "newline")

-- the routine `print`
abbrev pub print : ℕ
print = routine_named (codes "print")

-- the routine `read`
abbrev pub read : ℕ
read = routine_named (codes "read")

-- the parameters with H = 2h, which makes H the location h
abbrev pub with_h : ℕ → List ℕ
with_h h = 2 * h ∷ 0 ∷ 0 ∷ 0 ∷ 0 ∷ 0 ∷ []
