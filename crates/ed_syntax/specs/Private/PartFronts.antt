-- What the code takes from the front of a line.
use Rattle.std.specs.Prelude.{◌≡◌, ◌<◌, Bool, true, false, [], ◌∷◌, ◌++◌}
use Rattle.std.specs.Prelude.{Option, Some, None, Result, Ok, Err, length, option_map}
use Rattle.std.specs.Borrow.{Bor}
use Rattle.std.specs.List.{list_all}
use Rattle.ed_words.specs.Texts.{Text}
use Rattle.ed_syntax.specs.Reading.Parts.{parts_of}
use Rattle.ed_syntax.specs.Parts.{begins_run, is_blank, has_quote}
use Rattle.ed_lines.specs.Names.{is_run_byte}
use Rattle.ed_syntax.specs.Private.Seen.{part}
use Rattle.ed_syntax.specs.declared.parts.Part.{Part}
use Rattle.ed_syntax.specs.declared.parts.OpenQuote.{OpenQuote}

-- whether a text begins with a blank
abbrev pub begins_blank : Text → Bool
begins_blank [] = false
begins_blank (b ∷ bs) = is_blank b

-- a text begins with a run, which ends where the rest begins
pub record SplitsRun (text first rest : Text) : Type 0 where
  pub whole : text ≡ first ++ rest
  pub each : list_all is_run_byte first ≡ true
  pub end : begins_run rest ≡ false

-- the first quote of a text is between `inside` and the rest
pub record SplitsQuote (text inside rest : Text) : Type 0 where
  pub whole : text ≡ inside ++ 34 ∷ rest
  pub none : has_quote inside ≡ false

-- the part at the front, and what is left; no part; or a quote that is never closed
abbrev pub Takes : Text → Result (Option (Part × Bor Text)) OpenQuote → Type 0
Takes text (Ok (Some p)) = (parts_of text ≡ option_map (λ ps. part p.0 ∷ ps) (parts_of p.1.now))
    × (length p.1.now < length text)
Takes text (Ok None) = parts_of text ≡ Some []
Takes text (Err e) = parts_of text ≡ None
