-- The linked program: the words of a source by absolute addresses, and where it begins (this project's own rule).
use Rattle.std.specs.Prelude.{ℕ, ◌+◌, ◌*◌, ◌/◌, ◌%◌, ◌^◌, nat_eq, nat_lt, ◌||◌, false, List, [], ◌∷◌, ◌++◌}
use Rattle.std.specs.Prelude.{Option, Some, None, unwrap_or, map, if◌then◌else◌, ℤ, pos, int_lt, unsigned_abs}
use Rattle.std.specs.List.{flat_map}
use Rattle.ed_words.specs.Words.{digit}
use Rattle.ed_notation.specs.Fold.{word_with}
use Rattle.ed_library.specs.Entries.{entry}
use Rattle.ed_library.specs.Routines.{find, table_item}
use Rattle.ed_library.specs.Images.{routine_word}
use Rattle.ed_lines.specs.declared.program.Operand.{Operand}
use Rattle.ed_lines.specs.declared.program.Setting.{Setting}
use Rattle.ed_lines.specs.declared.program.Statement.{Statement}
use Rattle.ed_lines.specs.declared.program.Statement.TheVariants.{Segment, Order, Number, Text}
use Rattle.ed_lines.specs.declared.program.Statement.TheVariants.{Long, Fetch, Enter, Rows}
use Rattle.ed_lines.specs.declared.program.Line.{Line}
use Rattle.ed_symbols.specs.declared.location_counter.LocationCounter.{LocationCounter}
use Rattle.ed_symbols.specs.declared.symbols.Definition.{Definition}
use Rattle.ed_symbols.specs.Places.{even_from, after_statement, segment_at, first_counter}
use Rattle.ed_symbols.specs.Names.{place_on, symbols_from}
use Rattle.ed_symbols.specs.Operands.{operand_value}

-- a value as the number of an order; 0 for None and for a value that no order holds; an accepted source has neither
abbrev pub order_number : Option ℤ → ℕ
order_number None = 0
order_number (Some v) = if int_lt v (pos 0) || int_lt (pos 32767) v then 0 else unsigned_abs v

-- the number of an operand on a line of a segment
abbrev pub operand_number : List Definition → Option ℕ → Operand → ℕ
operand_number symbols segment o = order_number (operand_value symbols segment o)

-- the words of a `long` from a location upwards: 0 at a location that it skips, then the even and the odd half
abbrev pub long_words : ℕ → ℕ → List ℕ
long_words place v = (if nat_eq (place % 2) 1 then 0 ∷ [] else []) ++ v % 2 ^ 17 ∷ v / 2 ^ 18 ∷ []

-- the words of a line of a segment
abbrev pub line_words : List Definition → LocationCounter → Option Statement → List ℕ
line_words symbols s (Some (Order f o long)) = word_with f (operand_number symbols (segment_at s) o) false
    (digit long) ∷ []
line_words symbols s (Some (Number w)) = w ∷ []
line_words symbols s (Some (Text codes)) = map (λ c. 4096 * c) codes.items
line_words symbols s (Some (Long v)) = long_words s.place v
line_words symbols s _ = []

-- words with their locations, from `place` upwards
abbrev pub placed_words : ℕ → List ℕ → List (ℕ × ℕ)
placed_words place [] = []
placed_words place (w ∷ ws) = (place, w) ∷ placed_words (place + 1) ws

-- the codes of the letters of parameters, H N M & L X; their words are in the locations 45 to 50
abbrev pub parameter_letters : List ℕ
parameter_letters = 21 ∷ 22 ∷ 23 ∷ 24 ∷ 25 ∷ 26 ∷ []

-- the operand to which a letter is set
abbrev pub set_to : List Setting → ℕ → Option Operand
set_to [] c = None
set_to (t ∷ ts) c = if nat_eq t.letter c then Some t.operand else set_to ts c

-- the word of a parameter, if it is set
abbrev pub preset : List Definition → Option Operand → ℕ → List (ℕ × ℕ)
preset symbols None c = []
preset symbols (Some o) c = (24 + c, 2 * operand_number symbols None o) ∷ []

-- the parameters that a `use` sets
abbrev pub presets : List Definition → List Setting → List (ℕ × ℕ)
presets symbols ts = flat_map (λ c. preset symbols (set_to ts c) c) parameter_letters

-- the word of a letter's setting, 0 if it isn't set
abbrev pub parameter : List Definition → Option Operand → ℕ
parameter symbols None = 0
parameter symbols (Some o) = 2 * operand_number symbols None o

-- the six words of a routine's parameters
abbrev pub parameters : List Definition → List Setting → List ℕ
parameters symbols ts = map (λ c. parameter symbols (set_to ts c)) parameter_letters

-- the words of a routine at a base
abbrev pub image : List Definition → List Setting → ℕ → Option ℕ → List (ℕ × ℕ)
image symbols ts base None = []
image symbols ts base (Some r) =
    placed_words base (map (λ row. routine_word (parameters symbols ts) base (table_item row)) (entry r).items)

-- what a line places: its words, and at a `use` the parameters that it sets and the routine's words
abbrev pub placed_by_line : List Definition → LocationCounter → Option Statement → List (ℕ × ℕ)
placed_by_line symbols s (Some (Fetch routine name ts)) = presets symbols ts.items
    ++ image symbols ts.items (even_from s.place) (find routine)
placed_by_line symbols s st = placed_words s.place (line_words symbols s st)

-- what the lines from a location counter onwards place, one after the other
abbrev pub placed_from : List Definition → LocationCounter → List Line → List (ℕ × ℕ)
placed_from symbols s [] = []
placed_from symbols s (l ∷ lines) = placed_by_line symbols s l.statement
    ++ placed_from symbols (after_statement l.statement s) lines

-- the location that an `enter` line names, and for any other line that of the later lines
abbrev pub entered_place : List Definition → Option Statement → ℕ → ℕ
entered_place symbols (Some (Enter name)) later = unwrap_or (place_on symbols None name) 0
entered_place symbols st later = later

-- the location that the first `enter` line names, 0 if there is no such line
abbrev pub entry_from : List Definition → List Line → ℕ
entry_from symbols [] = 0
entry_from symbols (l ∷ lines) = entered_place symbols l.statement (entry_from symbols lines)

-- the location of a line's first word
abbrev pub first_place : Option Statement → LocationCounter → ℕ
first_place (Some (Segment name base)) s = (after_statement (Some (Segment name base)) s).place
first_place (Some (Fetch routine name ts)) s = even_from s.place
first_place st s = s.place

-- the location after a line's words
abbrev pub end_place : Option Statement → LocationCounter → ℕ
end_place st s = (after_statement st s).place

-- θ after the lines from a location counter onwards: twice the base of the last `use` or segment with a word, else unchanged
abbrev pub theta_from : ℕ → LocationCounter → List Line → ℕ
theta_from theta s [] = theta
theta_from theta s (l ∷ lines) =
    theta_from
    (if nat_lt (first_place l.statement s) (end_place l.statement s)
    then 2 * (after_statement l.statement s).base else theta)
    (after_statement l.statement s) lines

-- the rows that a line puts on the tape after the program
abbrev pub data_rows : Option Statement → List ℕ
data_rows (Some (Rows codes)) = codes.items
data_rows st = []

-- the rows that all lines put there
abbrev pub data_after : List Line → List ℕ
data_after [] = []
data_after (l ∷ lines) = data_rows l.statement ++ data_after lines

-- the definitions of the names of a source
abbrev pub symbols_of : List Line → List Definition
symbols_of lines = symbols_from first_counter lines

-- the words of the linked program with their locations, in the order of the lines; the last word at a location counts
abbrev pub linked_words : List Line → List (ℕ × ℕ)
linked_words lines = placed_from (symbols_of lines) first_counter lines

-- where the program begins
abbrev pub entry_of : List Line → ℕ
entry_of lines = entry_from (symbols_of lines) lines
