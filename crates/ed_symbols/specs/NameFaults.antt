-- The faults of the names of a source, S6 to S8: one sentence for each, over the lines and their locations. No sentence
-- depends on another one, and none goes through the lines one by one (this project's own rule).
use Rattle.std.specs.Prelude.{◌≡◌, ◌⊎◌, ℕ, ◌+◌, true, List, [], ◌∷◌, ◌++◌, length, map}
use Rattle.std.specs.Prelude.{Option, Some, None, ℤ, pos, int_lt}
use Rattle.std.specs.List.{Contains}
use Rattle.ed_lines.specs.Causes.{IsLeastFault}
use Rattle.ed_lines.specs.Programs.{AreNumbered}
use Rattle.ed_lines.specs.declared.program.Operand.{Operand}
use Rattle.ed_lines.specs.declared.program.Operand.TheVariants as operands
use Rattle.ed_lines.specs.declared.program.Statement.{Statement}
use Rattle.ed_lines.specs.declared.program.Statement.TheVariants.{Order, Fetch, Enter}
use Rattle.ed_lines.specs.declared.program.Line.{Line}
use Rattle.ed_lines.specs.declared.fault.SourceCause.{SourceCause}
use Rattle.ed_lines.specs.declared.fault.SourceCause.TheVariants as causes
use Rattle.ed_lines.specs.declared.fault.SourceFault.{SourceFault}
use Rattle.ed_lines.specs.declared.fault.SourceFault.TheVariants.{At, Memory}
use Rattle.ed_symbols.specs.declared.location_counter.LocationCounter.{LocationCounter}
use Rattle.ed_symbols.specs.declared.symbols.Definition.{Definition}
use Rattle.ed_symbols.specs.Places.{after_statement, first_counter, segment_of}
use Rattle.ed_symbols.specs.Names.{line_definitions, symbols_from, is_local, label_definition, statement_definition}
use Rattle.ed_symbols.specs.Names.{place_on}
use Rattle.ed_symbols.specs.Operands.{operand_of, operand_value}

-- ---- lines and those before them

-- this is a line of the source, and these are the lines before it
pub record IsLineAfter (lines before : List Line) (l : Line) : Type 0 where
  pub after : List Line
  pub lines_are : lines ≡ before ++ l ∷ after

-- the location and the segment after some lines, beginning at a location counter
abbrev pub counter_from : LocationCounter → List Line → LocationCounter
counter_from s [] = s
counter_from s (l ∷ lines) = counter_from (after_statement l.statement s) lines

-- the location and the segment after some lines of a source
abbrev pub counter_after : List Line → LocationCounter
counter_after before = counter_from first_counter before

-- ---- what a line says

-- the operands of a statement: that of an order, and that of each setting of a `use`
abbrev pub HasOperand : Option Statement → Operand → Type 0
HasOperand (Some (Order function operand length)) o = o ≡ operand
HasOperand (Some (Fetch routine name settings)) o = Contains (map operand_of settings.items) o
HasOperand st o = ⊥

-- the names in an operand
abbrev pub HasName : Operand → List ℕ → Type 0
HasName (operands.Number n) name = ⊥
HasName (operands.Label first plus) name = name ≡ first
HasName (operands.Two first second minus) name = (name ≡ first) ⊎ (name ≡ second)

-- two definitions of one name; local names are alike only within one segment
pub record AreAlike (h other : Definition) : Type 0 where
  pub names : other.name ≡ h.name
  pub segments : is_local h.name ≡ true → (k : ℕ) × (h.segment ≡ Some k) × (other.segment ≡ Some k)

-- ---- the faults

-- S6: the line defines a name that an earlier line defines, or that it defines twice
abbrev pub DefinesAgain : List Line → Line → Type 0
DefinesAgain before l =
    ((h : Definition) × Contains (line_definitions l (counter_after before)) h
    × (earlier : List Line) × (e : Line) × IsLineAfter before earlier e
    × (other : Definition) × Contains (line_definitions e (counter_after earlier)) other × AreAlike h other)
    ⊎ ((h : Definition) × (statement_definition l.statement (counter_after before) ≡ Some h)
    × (other : Definition) × (label_definition l.label l.statement (counter_after before) ≡ Some other)
    × AreAlike h other)

-- S7: an operand or `enter` has a name that is unknown on the line
abbrev pub NamesUnknown : List Line → List Line → Line → Type 0
NamesUnknown lines before l =
    ((o : Operand) × HasOperand l.statement o × (name : List ℕ) × HasName o name
    × (place_on (symbols_from first_counter lines) (segment_of l (counter_after before)) name ≡ None))
    ⊎ ((name : List ℕ) × (l.statement ≡ Some (Enter name))
    × (place_on (symbols_from first_counter lines) None name ≡ None))

-- S8: the value of an operand that has a name is below 0 or above 1023
abbrev pub ReachesOutside : List Line → List Line → Line → Type 0
ReachesOutside lines before l = (o : Operand) × HasOperand l.statement o × (name : List ℕ) × HasName o name
    × (v : ℤ) × (operand_value (symbols_from first_counter lines) (segment_of l (counter_after before)) o ≡ Some v)
    × ((int_lt v (pos 0) ≡ true) ⊎ (int_lt (pos 1023) v ≡ true))

-- the line after these lines has this fault of names
abbrev pub LineHasNameFault : List Line → List Line → Line → SourceCause → Type 0
LineHasNameFault lines before l causes.LabelTwice = DefinesAgain before l
LineHasNameFault lines before l causes.LabelUnknown = NamesUnknown lines before l
LineHasNameFault lines before l causes.AddressRange = ReachesOutside lines before l
LineHasNameFault lines before l cause = ⊥

-- the source has a fault of names at the line with this number, counted from 1
abbrev pub HasNameFault : List Line → ℕ → SourceCause → Type 0
HasNameFault lines k cause = (before : List Line) × (l : Line) × IsLineAfter lines before l × (k ≡ length before + 1)
    × LineHasNameFault lines before l cause

-- the fault of the names of a source
abbrev pub IsNameFault : List Line → ℕ → SourceCause → Type 0
IsNameFault lines = IsLeastFault (HasNameFault lines)

-- the source has no fault of names
abbrev pub HasNoNameFault : List Line → Type 0
HasNoNameFault lines = (k : ℕ) (cause : SourceCause) → HasNameFault lines k cause → ⊥

-- the fault of names, if there is one
abbrev pub NameFaultIs : List Line → Option SourceFault → Type 0
NameFaultIs lines None = HasNoNameFault lines
NameFaultIs lines (Some (At k cause)) = IsNameFault lines k cause
NameFaultIs lines (Some Memory) = ⊥

-- the lines of each program have exactly one fault of names or none, and never both
pub record EachHasOneNameFault : Type 0 where
  pub every : (lines : List Line) → AreNumbered lines → (f : Option SourceFault) × NameFaultIs lines f
  pub one : (lines : List Line) (f g : Option SourceFault) → NameFaultIs lines f → NameFaultIs lines g → f ≡ g
