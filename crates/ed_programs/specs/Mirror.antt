-- The tape of `examples/mirror.tape` for any word, and what it prints.
use Rattle.std.specs.Prelude.{ℕ, ◌+◌, ◌*◌, [], ◌∷◌, ◌++◌, length, map}
use Rattle.std.specs.Fmt.{decimal}
use Rattle.ed_words.specs.Texts.{Text}
use Rattle.ed_sources.specs.CallSources.{filled_text}
use Rattle.ed_programs.specs.declared.mirror.TheConstants.{MIRROR}

-- the whole tape: its last line has the number of letters and the letters
abbrev pub mirror_text : Text → Text
mirror_text letters = filled_text (map (λ piece. piece.now) MIRROR) ((decimal (length letters) ++ letters) ∷ [])

-- the orders that load the tape
abbrev pub mirror_cost : ℕ
mirror_cost = 1259

-- 21 orders a letter, and 3 more
abbrev pub mirror_orders : Text → ℕ
mirror_orders letters = 21 * length letters + 3
