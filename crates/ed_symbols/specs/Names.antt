-- Locations of names: a name stands for the location of its first definition, a local name for that of its first
-- definition in the segment of the line that uses it (this project's own rule).
use Rattle.std.specs.Prelude.{ℕ, ◌+◌, ◌==◌, ◌&&◌, ◌||◌, not, Bool, false, List}
use Rattle.std.specs.Prelude.{[], ◌∷◌, ◌++◌, Option, Some, None, unwrap_or, option_map, if◌then◌else◌}
use Rattle.std.specs.Str.{bytes_eq}
use Rattle.ed_lines.specs.declared.program.Statement.{Statement}
use Rattle.ed_lines.specs.declared.program.Statement.TheVariants.{Segment, Fetch, Long}
use Rattle.ed_lines.specs.declared.program.Line.{Line}
use Rattle.ed_symbols.specs.Places.{even_from, after_statement, segment_at}
use Rattle.ed_symbols.specs.declared.location_counter.LocationCounter.{LocationCounter}
use Rattle.ed_symbols.specs.declared.symbols.Definition.{Definition}

-- the location of a line's label; that of a `long` is rounded up to even
abbrev pub label_place : Option Statement → LocationCounter → ℕ
label_place (Some (Long value)) s = even_from s.place
label_place _ s = s.place

-- the definition by a line's label, in the segment of the line
abbrev pub label_definition : Option (List ℕ) → Option Statement → LocationCounter → Option Definition
label_definition None statement s = None
label_definition (Some name) statement s = Some (record {
  name = name;
  place = label_place statement s;
  segment = segment_at s;
})

-- the definition by a statement: a segment's name, which belongs to its segment, or the second name of a `use`, which
-- belongs to no segment
abbrev pub statement_definition : Option Statement → LocationCounter → Option Definition
statement_definition (Some (Segment name base)) s =
    Some (record { name = name; place = unwrap_or base s.place; segment = Some (s.segments + 1) })
statement_definition (Some (Fetch routine name settings)) s =
    Some (record { name = name; place = even_from s.place; segment = None })
statement_definition _ s = None

-- a list of one definition or none
abbrev pub as_list : Option Definition → List Definition
as_list None = []
as_list (Some h) = h ∷ []

-- what a line defines
abbrev pub line_definitions : Line → LocationCounter → List Definition
line_definitions l s = as_list (label_definition l.label l.statement s) ++ as_list (statement_definition l.statement s)

-- what the lines from a location counter onwards define, in their order
abbrev pub symbols_from : LocationCounter → List Line → List Definition
symbols_from s [] = []
symbols_from s (l ∷ lines) = line_definitions l s ++ symbols_from (after_statement l.statement s) lines

-- whether a name is local: it begins with _
abbrev pub is_local : List ℕ → Bool
is_local [] = false
is_local (c ∷ cs) = c == 95

-- whether both are the same segment
abbrev pub same_segment : Option ℕ → Option ℕ → Bool
same_segment (Some a) (Some b) = a == b
same_segment _ b = false

-- whether a definition is of this name, as seen from a line of this segment
abbrev pub is_definition_of : Option ℕ → List ℕ → Definition → Bool
is_definition_of segment name h = bytes_eq h.name name && (not (is_local name) || same_segment h.segment segment)

-- the first definition of a name, as seen from a line of this segment
abbrev pub definition_of : Option ℕ → List ℕ → List Definition → Option Definition
definition_of segment name [] = None
definition_of segment name (h ∷ symbols) = if is_definition_of segment name h then Some h
    else definition_of segment name symbols

-- the location of a definition
abbrev pub definition_place : Definition → ℕ
definition_place h = h.place

-- the location of a name on a line of this segment, if it is known there
abbrev pub place_on : List Definition → Option ℕ → List ℕ → Option ℕ
place_on symbols segment name = option_map definition_place (definition_of segment name symbols)
