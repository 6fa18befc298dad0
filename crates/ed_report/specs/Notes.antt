-- The lines that the program writes for a fault or for a run's ending (this project's own rule). Each ends with a line
-- feed (10), and its numbers are in decimal.
use Rattle.std.specs.Prelude.{ℕ, List, [], ◌∷◌, ◌++◌, codes}
use Rattle.std.specs.Fmt.{decimal}
use Rattle.ed_codes.specs.declared.tape.TextFault.{TextFault}
use Rattle.ed_codes.specs.declared.tape.TextFault.TheVariants.{NoRow, OpenComment, Memory}
use Rattle.ed_notation.specs.declared.cause.TapeFault.{TapeFault}
use Rattle.ed_notation.specs.declared.cause.TapeFault.TheVariants.{At, Memory as NoMemoryThere}
use Rattle.ed_notation.specs.declared.cause.TapeCause.{TapeCause}
use Rattle.ed_notation.specs.declared.cause.TapeCause.TheVariants.{EndOfTape, BadRow, NumberTooLarge}
use Rattle.ed_notation.specs.declared.cause.TapeCause.TheVariants.{AfterMark, BadControl}
use Rattle.ed_notation.specs.declared.cause.TapeCause.TheVariants.{LoaderStore, StoreEnd, NoPlace}
use Rattle.ed_notation.specs.declared.cause.TapeCause.TheVariants.{EntryNegative, EntryInLoader}
use Rattle.ed_lines.specs.declared.fault.SourceFault.{SourceFault}
use Rattle.ed_lines.specs.declared.fault.SourceFault.TheVariants.{At as AtLine, Memory as NoMemoryForIt}
use Rattle.ed_lines.specs.declared.fault.SourceCause.{SourceCause}
use Rattle.ed_lines.specs.declared.fault.SourceCause.TheVariants as source
use Rattle.ed_store.specs.Cells.{short_at}
use Rattle.ed_orders.specs.Texts.{order_text}
use Rattle.ed_machine.specs.State.{State}
use Rattle.ed_machine.specs.declared.ending.Ending.{Ending}
use Rattle.ed_machine.specs.declared.ending.Ending.TheVariants.{Stopped, Limit, NoOrder, NoTape, PaperFull}

-- `byte B: T1 no row` and `byte B: T2 open comment`, B the byte's offset; that no memory was found is no such line
abbrev pub text_fault_line : TextFault → List ℕ
text_fault_line (NoRow place byte) = codes "byte " ++ decimal place ++ codes ": T1 no row" ++ 10 ∷ []
text_fault_line (OpenComment place) = codes "byte " ++ decimal place ++ codes ": T2 open comment" ++ 10 ∷ []
text_fault_line Memory = []

-- the number and the text of each rule of the tape notation
abbrev pub cause_text : TapeCause → List ℕ
cause_text EndOfTape = codes "N1 end of tape"
cause_text BadRow = codes "N2 bad row"
cause_text NumberTooLarge = codes "N3 number too large"
cause_text AfterMark = codes "N4 after mark"
cause_text BadControl = codes "N5 bad control"
cause_text LoaderStore = codes "N6 loader store"
cause_text StoreEnd = codes "N7 store end"
cause_text NoPlace = codes "N8 no place"
cause_text EntryNegative = codes "N9 entry negative"
cause_text EntryInLoader = codes "N10 entry in loader"

-- `row R: Nk TEXT`; R is the row at which a tape breaks a rule
abbrev pub rule_line : ℕ → TapeCause → List ℕ
rule_line row cause = codes "row " ++ decimal row ++ codes ": " ++ cause_text cause ++ 10 ∷ []

-- `part P, row R: Nk TEXT`, for a tape that is read in parts: P counts from 1, and R from the tape's first row
abbrev pub part_line : ℕ → ℕ → TapeCause → List ℕ
part_line part row cause = codes "part " ++ decimal part ++ codes ", row " ++ decimal row ++ codes ": "
    ++ cause_text cause ++ 10 ∷ []

-- the line of a tape's fault; that no memory was found is not a line of this kind
abbrev pub tape_fault_line : TapeFault → List ℕ
tape_fault_line (At row cause) = rule_line row cause
tape_fault_line NoMemoryThere = []

-- the number and the text of each fault of a source
abbrev pub source_cause_text : SourceCause → List ℕ
source_cause_text source.BadByte = codes "S1 bad byte"
source_cause_text source.LongLine = codes "S2 long line"
source_cause_text source.NotAStatement = codes "S3 not a statement"
source_cause_text source.NumberRange = codes "S4 number out of range"
source_cause_text source.TooManyLines = codes "S5 too many lines"
source_cause_text source.LabelTwice = codes "S6 label twice"
source_cause_text source.LabelUnknown = codes "S7 unknown label"
source_cause_text source.AddressRange = codes "S8 address out of range"
source_cause_text source.OutsideSegment = codes "S9 outside a segment"
source_cause_text source.LoaderStore = codes "S10 loader store"
source_cause_text source.ParameterStore = codes "S11 parameter store"
source_cause_text source.StoreEnd = codes "S12 store end"
source_cause_text source.Overlap = codes "S13 overlap"
source_cause_text source.NoSuchRoutine = codes "S14 no such routine"
source_cause_text source.Parameters = codes "S15 parameters"
source_cause_text source.Enter = codes "S16 enter"
source_cause_text source.SandwichDigit = codes "S17 sandwich digit"

-- `line L: ` and a text
abbrev pub of_line : ℕ → List ℕ → List ℕ
of_line line text = codes "line " ++ decimal line ++ codes ": " ++ text ++ 10 ∷ []

-- `line L: Sk TEXT`, L the line, counted from 1; that no memory was found is not a line of this kind
abbrev pub source_fault_line : SourceFault → List ℕ
source_fault_line (AtLine line cause) = of_line line (source_cause_text cause)
source_fault_line NoMemoryForIt = []

-- the line for a script's line that is not a command
abbrev pub bad_command_line : ℕ → List ℕ
bad_command_line line = of_line line (codes "C1 bad command")

-- the line for a command that goes back too far, with the count of orders at that point
abbrev pub too_far_line : ℕ → ℕ → List ℕ
too_far_line line done = codes "line " ++ decimal line ++ codes ": C2 back too far, " ++ decimal done
    ++ codes " done" ++ 10 ∷ []

-- the line for an input without a line that divides it, with the number of its lines plus 1
abbrev pub no_text_line : ℕ → List ℕ
no_text_line line = of_line line (codes "C3 no text line")

-- `NAME at C after K`, with no line feed
abbrev pub at_after : List ℕ → ℕ → ℕ → List ℕ
at_after name counter orders = name ++ codes " at " ++ decimal counter ++ codes " after " ++ decimal orders

-- the line of a run's ending, with the counter and the count of orders at its end; if the word at the counter is not
-- an order, the line ends with its text
abbrev pub ending_line : Ending → State → List ℕ
ending_line Stopped s = at_after (codes "stopped") s.counter s.orders ++ 10 ∷ []
ending_line Limit s = at_after (codes "limit") s.counter s.orders ++ 10 ∷ []
ending_line NoOrder s =
    at_after (codes "no order") s.counter s.orders ++ codes ": " ++ order_text (short_at s.store s.counter) ++ 10 ∷ []
ending_line NoTape s = at_after (codes "no tape") s.counter s.orders ++ 10 ∷ []
ending_line PaperFull s = at_after (codes "paper full") s.counter s.orders ++ 10 ∷ []

-- `entered E after N orders, `, which comes before the line of an ending if the run entered its program
abbrev pub entry_note : ℕ → ℕ → List ℕ
entry_note at orders = codes "entered " ++ decimal at ++ codes " after " ++ decimal orders ++ codes " orders, "
