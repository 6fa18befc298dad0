-- What resolving the names of a source gives, and what can be read of it by the number of a line, counted from 1.
use Rattle.std.specs.Prelude.{ℕ, ◌-◌, List, Option, None, slice_index_or}
use Rattle.ed_lines.specs.declared.fault.SourceFault.{SourceFault}
use Rattle.ed_symbols.specs.declared.location_counter.LinePosition.{LinePosition}
use Rattle.ed_symbols.specs.declared.symbols.Definition.{Definition}

-- the position of each line, what is defined, and the first fault of names
pub record Resolved : Type 0 where
  pub positions : List LinePosition
  pub symbols : List Definition
  pub fault : Option SourceFault

-- the position of a line
abbrev pub position_at : Resolved → ℕ → LinePosition
position_at r line = slice_index_or r.positions (line - 1) (record { place = 0; segment = None })

-- the location before a line
abbrev pub line_place : Resolved → ℕ → ℕ
line_place r line = (position_at r line).place

-- the segment to which a line belongs
abbrev pub line_segment : Resolved → ℕ → Option ℕ
line_segment r line = (position_at r line).segment
