-- The steps from the lines of a source to its linked program. No public clause cites this.
use Rattle.std.specs.Prelude.{◌≡◌, ◌≤◌, Bool, List, [], false, Option, Some, None, Result, Ok, Err, unwrap_or, length}
use Rattle.ed_words.specs.declared.size.Size.{Size}
use Rattle.ed_library.specs.Routines.{find}
use Rattle.ed_lines.specs.declared.program.Line.{Line}
use Rattle.ed_lines.specs.declared.program.Statement.{Statement}
use Rattle.ed_lines.specs.declared.program.Statement.TheVariants.{Text, Fetch, Enter}
use Rattle.ed_lines.specs.declared.fault.SourceFault.{SourceFault}
use Rattle.ed_notation.specs.declared.item.Item.{Item}
use Rattle.ed_symbols.specs.declared.location_counter.LocationCounter.{LocationCounter}
use Rattle.ed_symbols.specs.declared.symbols.Definition.{Definition}
use Rattle.ed_symbols.specs.Places.{first_counter}
use Rattle.ed_link.specs.declared.building.Built.{Built}
use Rattle.ed_link.specs.declared.linked.Linked.{Linked}
use Rattle.ed_link.specs.Linked.{data_after, entry_from, placed_from}
use Rattle.ed_link.specs.Punch.{items_of, punched_from, routine_items, word_items}
use Rattle.ed_link.specs.FaultTests.{IsFirstFault, LinesBefore, fault_from}
use Rattle.ed_link.specs.Tables.{table_of, words_from}
use Rattle.ed_link.specs.Labels.{labels}

-- a string has at most 120 rows, and a routine at most 128 items, so that a line gives few items
abbrev pub IsFew : Option Statement → Type 0
IsFew (Some (Text codes)) = length codes.items ≤ 120
IsFew (Some (Fetch routine name ts)) = length (routine_items (find routine)) ≤ 128
IsFew st = Unit {0}

-- the items of a line without the head of its segment
abbrev pub bare_items : List Definition → LocationCounter → Option Statement → List Item
bare_items symbols s (Some (Fetch routine name ts)) = items_of symbols s (Some (Fetch routine name ts))
bare_items symbols s (Some (Enter name)) = items_of symbols s (Some (Enter name))
bare_items symbols s st = word_items symbols s st

-- before the first line
abbrev pub first_past : LinesBefore
first_past = record { extents = []; entered = false }

-- what is built from lines that have none of the faults S9 to S17
pub record IsBuilt (z : Size) (symbols : List Definition) (has_enter : Bool) (lines : List Line) (b : Built) :
    Type 0 where
  pub accepted : fault_from z symbols has_enter first_past first_counter lines ≡ None
  pub items : b.items.items ≡ punched_from symbols first_counter lines
  pub table : b.table.items ≡ table_of (placed_from symbols first_counter lines)
  pub size : length b.table.items ≡ 1024
  pub entry : unwrap_or b.entry 0 ≡ entry_from symbols lines
  pub after : b.after.items ≡ data_after lines
  pub few_items : length b.items.items ≤ 480000
  pub few_rows : length b.after.items ≤ 240000

-- the lines are built, or this is their fault
abbrev pub BuildIs : Size → List Definition → Bool → List Line → Result Built SourceFault → Type 0
BuildIs z symbols has_enter lines (Ok b) = IsBuilt z symbols has_enter lines b
BuildIs z symbols has_enter lines (Err e) = IsFirstFault
    (fault_from z symbols has_enter first_past first_counter lines) e

-- a linked program made of what was built
pub record IsFinished (symbols : List Definition) (b : Built) (k : Linked) : Type 0 where
  pub items : k.items.items ≡ b.items.items
  pub words : k.words.items ≡ words_from 0 b.table.items
  pub entry : k.entry ≡ unwrap_or b.entry 0
  pub after : k.after.items ≡ b.after.items
  pub labels : k.labels.items ≡ labels symbols
