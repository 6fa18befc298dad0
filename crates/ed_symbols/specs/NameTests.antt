-- The faults of the names of a source, S6 to S8, by tests of each line, as the crate looks for them. Proofs compute by
-- them that a fixed source has no fault of names. `proofs/NameLaw.antt` ties them to the sentences of the contracts.
use Rattle.std.specs.Prelude.{ℕ, ◌||◌, Bool, false, List, [], ◌∷◌}
use Rattle.std.specs.Prelude.{◌++◌, Option, Some, None, is_none, is_some, if◌then◌else◌}
use Rattle.std.specs.Prelude.{ℤ, pos, int_lt}
use Rattle.std.specs.List.{list_any}
use Rattle.ed_lines.specs.declared.program.Operand.{Operand}
use Rattle.ed_lines.specs.declared.program.Operand.TheVariants.{Number, Label, Two}
use Rattle.ed_lines.specs.declared.program.Statement.{Statement}
use Rattle.ed_lines.specs.declared.program.Statement.TheVariants.{Order, Fetch, Enter}
use Rattle.ed_lines.specs.declared.program.Line.{Line}
use Rattle.ed_lines.specs.declared.fault.SourceCause.{SourceCause}
use Rattle.ed_lines.specs.declared.fault.SourceCause.TheVariants.{LabelTwice, LabelUnknown, AddressRange}
use Rattle.ed_lines.specs.declared.fault.SourceFault.{SourceFault}
use Rattle.ed_lines.specs.declared.fault.SourceFault.TheVariants.{At}
use Rattle.ed_symbols.specs.Places.{first_counter, after_statement, segment_of, positions_from}
use Rattle.ed_symbols.specs.Names.{line_definitions, definition_of, symbols_from, label_definition, as_list}
use Rattle.ed_symbols.specs.Names.{statement_definition, place_on}
use Rattle.ed_symbols.specs.declared.location_counter.LocationCounter.{LocationCounter}
use Rattle.ed_symbols.specs.declared.symbols.Definition.{Definition}
use Rattle.ed_symbols.specs.Operands.{operand_of, operand_value}
use Rattle.ed_symbols.specs.Readers.{Resolved}

-- whether an operand has a name that is unknown on its line
abbrev pub is_unknown : List Definition → Option ℕ → Operand → Bool
is_unknown symbols segment o = is_none (operand_value symbols segment o)

-- whether a value is outside 0 to 1023, the addresses of the full store
abbrev pub is_far : Option ℤ → Bool
is_far None = false
is_far (Some v) = int_lt v (pos 0) || int_lt (pos 1023) v

-- whether an operand with a name has a value outside 0 to 1023
abbrev pub is_no_address : List Definition → Option ℕ → Operand → Bool
is_no_address symbols segment (Number n) = false
is_no_address symbols segment (Label name plus) = is_far (operand_value symbols segment (Label name plus))
is_no_address symbols segment (Two first second minus) = is_far (operand_value symbols segment (Two first second minus))

-- whether an operand of a statement passes a test: that of an order, or one of the settings of a `use`
abbrev pub any_operand : (Operand → Bool) → Option Statement → Bool
any_operand test (Some (Order function operand length)) = test operand
any_operand test (Some (Fetch routine name settings)) = list_any (λ t. test (operand_of t)) settings.items
any_operand test _ = false

-- whether an `enter` names something unknown
abbrev pub enters_unknown : List Definition → Option Statement → Bool
enters_unknown symbols (Some (Enter name)) = is_none (place_on symbols None name)
enters_unknown symbols _ = false

-- whether this name is defined earlier already, a local name in the same segment
abbrev pub is_again : List Definition → Option Definition → Bool
is_again earlier None = false
is_again earlier (Some h) = is_some (definition_of h.segment h.name earlier)

-- S6: the line defines a name that an earlier line defines, or that it defines twice
abbrev pub defines_again : List Definition → Line → LocationCounter → Bool
defines_again earlier l s = is_again earlier (label_definition l.label l.statement s)
    || is_again (earlier ++ as_list (label_definition l.label l.statement s)) (statement_definition l.statement s)

-- S7: an operand or `enter` has a name that is unknown on the line
abbrev pub names_unknown : List Definition → Line → LocationCounter → Bool
names_unknown symbols l s = any_operand (is_unknown symbols (segment_of l s)) l.statement
    || enters_unknown symbols l.statement

-- S8: the value of an operand with a name is not an address
abbrev pub reaches_outside : List Definition → Line → LocationCounter → Bool
reaches_outside symbols l s = any_operand (is_no_address symbols (segment_of l s)) l.statement

-- S7 if a name is unknown, or else S8 if a value is not an address
abbrev pub operands_cause : Bool → Bool → Option SourceCause
operands_cause unknown outside = if unknown then Some LabelUnknown else if outside then Some AddressRange else None

-- the fault of a line with the least number; `again` says whether the line defines a name again
abbrev pub naming_cause : List Definition → Bool → Line → LocationCounter → Option SourceCause
naming_cause symbols again l s =
    if again then Some LabelTwice
    else if names_unknown symbols l s then Some LabelUnknown
    else if reaches_outside symbols l s then Some AddressRange
    else None

-- a fault of a line, or else that of a later line
abbrev pub or_later : ℕ → Option SourceCause → Option SourceFault → Option SourceFault
or_later line None later = later
or_later line (Some cause) later = Some (At line cause)

-- the fault of the first line, from a location counter onwards, that has one
abbrev pub naming_fault_from : List Definition → List Definition → LocationCounter → List Line → Option SourceFault
naming_fault_from symbols earlier s [] = None
naming_fault_from symbols earlier s (l ∷ lines) =
    or_later l.number (naming_cause symbols (defines_again earlier l s) l s)
    (naming_fault_from symbols (earlier ++ line_definitions l s) (after_statement l.statement s) lines)

-- what resolving the names of these lines gives
abbrev pub resolution : List Line → Resolved
resolution lines = record {
  positions = positions_from first_counter lines;
  symbols = symbols_from first_counter lines;
  fault = naming_fault_from (symbols_from first_counter lines) [] first_counter lines;
}
