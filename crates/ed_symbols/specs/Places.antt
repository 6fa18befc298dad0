-- Locations of lines, by the words of the lines before them (this project's own rule).
use Rattle.std.specs.Prelude.{ℕ, ◌+◌, ◌%◌, true, false, List, []}
use Rattle.std.specs.Prelude.{◌∷◌, length, Option, Some, None, unwrap_or, if◌then◌else◌}
use Rattle.ed_library.specs.Routines.{find, place_count}
use Rattle.ed_lines.specs.declared.program.Statement.{Statement}
use Rattle.ed_lines.specs.declared.program.Statement.TheVariants.{Segment, Order, Number, Text}
use Rattle.ed_lines.specs.declared.program.Statement.TheVariants.{Fetch, Enter, Rows, Long}
use Rattle.ed_lines.specs.declared.program.Line.{Line}
use Rattle.ed_symbols.specs.declared.location_counter.LocationCounter.{LocationCounter}
use Rattle.ed_symbols.specs.declared.location_counter.LinePosition.{LinePosition}

-- a location, rounded up to even
abbrev pub even_from : ℕ → ℕ
even_from p = p + p % 2

-- the number of words of a routine, and 0 for one that isn't in the catalogue
abbrev pub routine_places : Option ℕ → ℕ
routine_places None = 0
routine_places (Some r) = place_count r

-- before the first line: location 56, outside every segment
abbrev pub first_counter : LocationCounter
first_counter = record { place = 56; base = 56; segments = 0; inside = false }

-- the location counter advanced by n words
abbrev pub moved_on : ℕ → LocationCounter → LocationCounter
moved_on n s = record s { place = s.place + n }

-- after a statement: `segment` may set the location, an order and `word` take 1 word, `text` one for each row, `use`
-- the routine's length from an even location, and `long` 2 from an even location; `segment` and `use` have their base
-- where they begin
abbrev pub after_statement : Option Statement → LocationCounter → LocationCounter
after_statement None s = s
after_statement (Some (Segment name base)) s =
    record { place = unwrap_or base s.place; base = unwrap_or base s.place; segments = s.segments + 1; inside = true }
after_statement (Some (Order function operand length)) s = moved_on 1 s
after_statement (Some (Number value)) s = moved_on 1 s
after_statement (Some (Text codes)) s = moved_on (length codes.items) s
after_statement (Some (Fetch routine name settings)) s =
    record {
      place = even_from s.place + routine_places (find routine);
      base = even_from s.place;
      segments = s.segments + 1;
      inside = false;
    }
after_statement (Some (Enter name)) s = s
after_statement (Some (Rows codes)) s = s
after_statement (Some (Long value)) s = record s { place = even_from s.place + 2 }

-- the segment of a location counter: its number if the last `segment` or `use` line was a `segment`
abbrev pub segment_at : LocationCounter → Option ℕ
segment_at s = if s.inside then Some s.segments else None

-- the segment to which a line belongs: a `segment` line to the one it begins, a `use` line to none
abbrev pub segment_of : Line → LocationCounter → Option ℕ
segment_of l s = segment_at (after_statement l.statement s)

-- the location before a line, and the segment to which the line belongs
abbrev pub position : Line → LocationCounter → LinePosition
position l s = record { place = s.place; segment = segment_of l s }

-- the same for each line from a location counter onwards
abbrev pub positions_from : LocationCounter → List Line → List LinePosition
positions_from s [] = []
positions_from s (l ∷ lines) = position l s ∷ positions_from (after_statement l.statement s) lines
