-- The parts of a line, as they are read from its front.
use Rattle.std.specs.Prelude.{ℕ, ◌==◌, List, [], ◌∷◌, ◌++◌}
use Rattle.std.specs.Prelude.{Option, Some, None, option_map, if◌then◌else◌}
use Rattle.ed_words.specs.Texts.{Text}
use Rattle.ed_syntax.specs.Parts.{LinePart, run, sign, quoted, is_blank, begins_run}
use Rattle.ed_lines.specs.Names.{is_run_byte}

-- a byte added to the front of the first part, if that is a run, and else a run of its own
abbrev pub longer : ℕ → List LinePart → List LinePart
longer b (run r ∷ parts) = run (b ∷ r) ∷ parts
longer b parts = run (b ∷ []) ∷ parts

-- a byte of a run belongs to the run that begins after it
abbrev pub with_run_byte : ℕ → Text → List LinePart → List LinePart
with_run_byte b after parts = if begins_run after then longer b parts else run (b ∷ []) ∷ parts

-- the parts of a text outside quotes (None), or after a quote and some bytes; None if a quote is never closed
abbrev pub parts_from : Option Text → Text → Option (List LinePart)
parts_from None [] = Some []
parts_from None (b ∷ bs) = if b == 59 then Some []
    else if b == 34 then parts_from (Some []) bs
    else if is_blank b then parts_from None bs
    else if is_run_byte b then option_map (with_run_byte b bs) (parts_from None bs)
    else option_map (λ ps. sign b ∷ ps) (parts_from None bs)
parts_from (Some q) [] = None
parts_from (Some q) (b ∷ bs) = if b == 34 then option_map (λ ps. quoted q ∷ ps) (parts_from None bs)
    else parts_from (Some (q ++ b ∷ [])) bs

-- the parts of a line; None if a quote is never closed
abbrev pub parts_of : Text → Option (List LinePart)
parts_of = parts_from None
