-- The faults of a source by tests of each line, in the order of their numbers, as the linker looks for them. Proofs
-- compute by them that a fixed source has no fault. `proofs/FaultSentences.antt` and `FaultLaw.antt` tie them to the
-- sentences that the contracts cite. S6 to S8, the faults of names, are those of `ed_symbols`.
use Rattle.std.specs.Prelude.{◌≡◌, ℕ, ◌+◌, nat_eq, nat_lt, nat_le, min, max, ◌||◌, ◌&&◌, not, Bool, true, false}
use Rattle.std.specs.Prelude.{List, [], ◌∷◌, ◌++◌, length, Option, Some, None, is_some, is_none, if◌then◌else◌}
use Rattle.std.specs.List.{list_any, list_all}
use Rattle.ed_words.specs.declared.size.Size.{Size}
use Rattle.ed_words.specs.Sizes.{locations}
use Rattle.ed_words.specs.Words.{halves_of}
use Rattle.ed_library.specs.Entries.{entry}
use Rattle.ed_library.specs.Routines.{find}
use Rattle.ed_lines.specs.declared.program.Setting.{Setting}
use Rattle.ed_lines.specs.declared.program.Statement.{Statement}
use Rattle.ed_lines.specs.declared.program.Statement.TheVariants.{Order, Number, Text, Long, Fetch, Enter, Rows}
use Rattle.ed_lines.specs.declared.program.Line.{Line}
use Rattle.ed_lines.specs.declared.fault.SourceCause.{SourceCause}
use Rattle.ed_lines.specs.declared.fault.SourceCause.TheVariants as causes
use Rattle.ed_lines.specs.declared.fault.SourceFault.{SourceFault}
use Rattle.ed_lines.specs.declared.fault.SourceFault.TheVariants.{At, Memory}
use Rattle.ed_symbols.specs.declared.location_counter.LocationCounter.{LocationCounter}
use Rattle.ed_symbols.specs.declared.symbols.Definition.{Definition}
use Rattle.ed_symbols.specs.Places.{after_statement, first_counter}
use Rattle.ed_symbols.specs.Names.{place_on}
use Rattle.ed_symbols.specs.NameTests.{or_later, resolution}
use Rattle.ed_link.specs.Linked.{first_place, end_place, set_to, symbols_of}
use Rattle.ed_link.specs.declared.faults.Extent.{Extent}

-- the extent from a location up to the one before another
abbrev pub extent : ℕ → ℕ → Extent
extent from after = record { from = from; after = after }

-- the extent of a line's words
abbrev pub word_extent : Option Statement → LocationCounter → Extent
word_extent st s = extent (first_place st s) (end_place st s)

-- the extent of one location, or an empty one
abbrev pub extent_at : Option ℕ → Extent
extent_at None = extent 0 0
extent_at (Some p) = extent p (p + 1)

-- the extent that a line needs: that of its words, and for `enter` the location of its name
abbrev pub reach : List Definition → Option Statement → LocationCounter → Extent
reach symbols (Some (Enter name)) s = extent_at (place_on symbols None name)
reach symbols st s = word_extent st s

-- whether two extents overlap
abbrev pub overlaps : Extent → Extent → Bool
overlaps a b = nat_lt (max a.from b.from) (min a.after b.after)

-- an order, `word`, `text` or `long`
abbrev pub is_in_segment : Option Statement → Bool
is_in_segment (Some (Order f o long)) = true
is_in_segment (Some (Number w)) = true
is_in_segment (Some (Text codes)) = true
is_in_segment (Some (Long v)) = true
is_in_segment st = false

-- whether a line has a word of its own
abbrev pub has_words : Option Statement → Bool
has_words (Some (Text codes)) = not (nat_eq (length codes.items) 0)
has_words st = is_in_segment st

-- S9
abbrev pub is_outside : Line → LocationCounter → Bool
is_outside l s = not s.inside && (is_some l.label || is_in_segment l.statement)

-- S14
abbrev pub has_no_routine : Option Statement → Bool
has_no_routine (Some (Fetch routine name ts)) = is_none (find routine)
has_no_routine st = false

-- whether as many letters are set as the routine has parameters, and each of these is set
abbrev pub sets : List Setting → Option ℕ → Bool
sets ts None = true
sets ts (Some r) = nat_eq (length ts) (length (entry r).parameters)
    && list_all (λ c. is_some (set_to ts c)) (entry r).parameters

-- S15
abbrev pub sets_otherwise : Option Statement → Bool
sets_otherwise (Some (Fetch routine name ts)) = not (sets ts.items (find routine))
sets_otherwise st = false

-- S14 if the catalogue has no such routine, or else S15 if not exactly its parameters are set
abbrev pub use_cause : Option Statement → Option SourceCause
use_cause st =
    if has_no_routine st then Some causes.NoSuchRoutine
    else if sets_otherwise st then Some causes.Parameters
    else None

-- whether a line is an `enter`
abbrev pub is_enter : Option Statement → Bool
is_enter (Some (Enter name)) = true
is_enter st = false

-- whether a line is a `data`
abbrev pub is_rows : Option Statement → Bool
is_rows (Some (Rows codes)) = true
is_rows st = false

-- whether some line is an `enter`
abbrev pub any_enter : List Line → Bool
any_enter [] = false
any_enter (l ∷ lines) = is_enter l.statement || any_enter lines

-- S16: after the first `enter` any form but `data`; before it `data`, in a source that has an `enter`
abbrev pub is_misplaced : Bool → Bool → Line → Bool
is_misplaced entered has_enter l =
    if entered then (is_some l.label || is_some l.statement) && not (is_rows l.statement)
    else has_enter && is_rows l.statement

-- S17
abbrev pub has_sandwich : Option Statement → Bool
has_sandwich (Some (Long v)) = (halves_of v).sandwich
has_sandwich st = false

-- what the lines before a line leave: the extents of their words, and whether one is an `enter`
pub record LinesBefore : Type 0 where
  pub extents : List Extent
  pub entered : Bool

-- the same after one more line
abbrev pub past_of : LinesBefore → Line → LocationCounter → LinesBefore
past_of past l s = record {
  extents = past.extents ++ word_extent l.statement s ∷ [];
  entered = past.entered || is_enter l.statement;
}

-- the fault of a line with the least number, among S9 to S17
abbrev pub cause_of : Size → List Definition → Bool → LinesBefore → Line → LocationCounter → Option SourceCause
cause_of z symbols has_enter past l s =
    if is_outside l s then Some causes.OutsideSegment
    else if overlaps (reach symbols l.statement s) (extent 0 44) then Some causes.LoaderStore
    else if overlaps (reach symbols l.statement s) (extent 44 56) then Some causes.ParameterStore
    else if overlaps (reach symbols l.statement s) (extent (locations z) (reach symbols l.statement s).after)
    then Some causes.StoreEnd
    else if list_any (λ other. overlaps (word_extent l.statement s) other) past.extents then Some causes.Overlap
    else if has_no_routine l.statement then Some causes.NoSuchRoutine
    else if sets_otherwise l.statement then Some causes.Parameters
    else if is_misplaced past.entered has_enter l then Some causes.Enter
    else if has_sandwich l.statement then Some causes.SandwichDigit
    else None

-- the fault of the first line, from a location counter onwards, that has one of S9 to S17
abbrev pub fault_from : Size → List Definition → Bool → LinesBefore → LocationCounter → List Line → Option SourceFault
fault_from z symbols has_enter past s [] = None
fault_from z symbols has_enter past s (l ∷ lines) =
    or_later l.number (cause_of z symbols has_enter past l s)
    (fault_from z symbols has_enter (past_of past l s) (after_statement l.statement s) lines)

-- S16 if there is no `enter`: at the number of lines plus 1
abbrev pub missing : Bool → ℕ → Option SourceFault
missing has_enter n = if has_enter then None else Some (At (n + 1) causes.Enter)

-- the line of a fault
abbrev pub fault_line : SourceFault → ℕ
fault_line (At line cause) = line
fault_line Memory = 0

-- the fault of the earlier line; of two on one line the first
abbrev pub earlier_fault : Option SourceFault → Option SourceFault → Option SourceFault
earlier_fault None b = b
earlier_fault (Some a) None = Some a
earlier_fault (Some a) (Some b) = if nat_le (fault_line a) (fault_line b) then Some a else Some b

-- the fault of a source on a machine of this size: the least number on the first faulty line
abbrev pub fault : Size → List Line → Option SourceFault
fault z lines =
    earlier_fault (resolution lines).fault
    (earlier_fault (fault_from z (symbols_of lines) (any_enter lines) (record { extents = []; entered = false })
    first_counter lines)
    (missing (any_enter lines) (length lines)))

-- a fault is the one wanted, or memory ran out
abbrev pub IsFirstFault : Option SourceFault → SourceFault → Type 0
IsFirstFault wanted (At k c) = wanted ≡ Some (At k c)
IsFirstFault wanted Memory = Unit {0}
