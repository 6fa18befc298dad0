-- The forms of a line, read from its parts. Each definition answers None if the parts don't have its form, and `Some`
-- of something `Ranged` if they do: that is None if a number is out of its range.
-- The argument `two` says whether the source is of version 2.
use Rattle.std.specs.Prelude.{ℕ, zero, suc, ◌==◌, ◌&&◌, ◌||◌}
use Rattle.std.specs.Prelude.{Bool, true, false, ℤ, pos}
use Rattle.std.specs.Prelude.{List, [], ◌∷◌, codes, length, map, nat_le, if◌then◌else◌}
use Rattle.std.specs.Prelude.{Option, Some, None, option_map, option_and_then}
use Rattle.std.specs.List.{list_all}
use Rattle.std.specs.Str.{bytes_eq}
use Rattle.ed_codes.specs.Spelling.{row_of}
use Rattle.ed_words.specs.Texts.{Text}
use Rattle.ed_words.specs.Decimals.{value}
use Rattle.ed_syntax.specs.Parts.{LinePart, run, sign, quoted, is_number, with_sign, function}
use Rattle.ed_lines.specs.Names.{is_name, is_place_name}
use Rattle.ed_syntax.specs.Parts.{length_of, setting_letter, array, modulo}
use Rattle.ed_lines.specs.declared.program.Operand.{Operand}
use Rattle.ed_lines.specs.declared.program.Operand.TheVariants as operands
use Rattle.ed_lines.specs.declared.program.Setting.{Setting}
use Rattle.ed_lines.specs.declared.program.Statement.{Statement}
use Rattle.ed_lines.specs.declared.program.Statement.TheVariants as statements
use Rattle.ed_syntax.specs.declared.form.Form.{Form}

-- something that has a form; None if one of its numbers is out of its range
abbrev pub Ranged : Type 0 → Type 0
Ranged A = Option A

-- what a function makes of something that has a form, if its numbers are in their ranges
abbrev pub ranged_map : {A B : Type 0} → (A → B) → Option (Ranged A) → Option (Ranged B)
ranged_map f o = option_map (option_map f) o

-- ---- names and numbers

-- the number that digits spell, if it is at most `most`
abbrev pub up_to : ℕ → Text → Ranged ℕ
up_to most digits = if nat_le (value digits) most then Some (value digits) else None

-- a number from 0 to `most`
abbrev pub number_up_to : ℕ → Text → Option (Ranged ℕ)
number_up_to most r = if is_number r then Some (up_to most r) else None

-- a number or, after a minus sign (45), its negative, from -least to most
abbrev pub integer : ℕ → ℕ → List LinePart → Option (Ranged ℤ)
integer least most (run r ∷ []) = ranged_map (with_sign false) (number_up_to most r)
integer least most (sign s ∷ run r ∷ []) = if s == 45 then ranged_map (with_sign true) (number_up_to least r) else None
integer least most _ = None

-- ---- strings

-- a byte that spells a row
abbrev pub spells : Option ℕ → Bool
spells (Some code) = true
spells None = false

-- the row of a byte that spells one, and 0 for any other byte
abbrev pub row : Option ℕ → ℕ
row (Some code) = code
row None = 0

-- a string: 1 to 120 bytes that spell rows, between quotes; a line has no room for more than 120
abbrev pub string_rows : Text → Option (List ℕ)
string_rows q = if nat_le 1 (length q) && (nat_le (length q) 120 && list_all (λ b. spells (row_of b)) q)
    then Some (map (λ b. row (row_of b)) q) else None

-- a string alone
abbrev pub string : List LinePart → Option (List ℕ)
string (quoted q ∷ []) = string_rows q
string _ = None

-- ---- operands

-- a plus sign (43) or a minus sign (45)
abbrev pub is_plus_or_minus : ℕ → Bool
is_plus_or_minus s = s == 43 || s == 45

-- an operand that is a number or a name
abbrev pub single : Bool → Text → Option (Ranged Operand)
single two r = if is_number r then Some (option_map operands.Number (up_to 32767 r))
    else if is_place_name two r then Some (Some (operands.Label r (pos 0)))
    else None

-- an operand that is a name, a sign, and a number or in version 2 a name
abbrev pub joined_operand : Bool → Text → ℕ → Text → Option (Ranged Operand)
joined_operand two r s n = if is_place_name two r
    then (if is_number n then Some (option_map (λ k. operands.Label r (with_sign (s == 45) k)) (up_to 1023 n))
    else if two && is_place_name two n then Some (Some (operands.Two r n (s == 45)))
    else None)
    else None

-- an operand, and the parts after it
abbrev pub with_rest : List LinePart → Option (Ranged Operand) → Option (Ranged Operand × List LinePart)
with_rest parts o = option_map (λ a. (a, parts)) o

-- after a name and a sign: what the sign joins to it
abbrev pub joined_front : Bool → Text → ℕ → List LinePart → Option (Ranged Operand × List LinePart)
joined_front two r s (run n ∷ parts) = with_rest parts (joined_operand two r s n)
joined_front two r s _ = None

-- an operand at the front, and the parts after it
abbrev pub operand : Bool → List LinePart → Option (Ranged Operand × List LinePart)
operand two (run r ∷ sign s ∷ parts) =
    if is_plus_or_minus s then joined_front two r s parts else with_rest (sign s ∷ parts) (single two r)
operand two (run r ∷ parts) = with_rest parts (single two r)
operand two _ = None

-- ---- orders

-- the length at the end of an order
abbrev pub length_end : List LinePart → Option Bool
length_end (sign e ∷ []) = length_of e
length_end _ = None

-- what follows the function: an operand, which is the number 0 if omitted, and the length
abbrev pub order_end : Bool → List LinePart → Option (Ranged Operand × Bool)
order_end two (sign e ∷ parts) = option_map (λ l. (Some (operands.Number 0), l)) (length_end (sign e ∷ parts))
order_end two parts = option_and_then (λ p. option_map (λ l. (p.0, l)) (length_end p.1)) (operand two parts)

-- an order: a function, an operand that may be omitted, and F or D
abbrev pub order : Bool → ℕ → List LinePart → Option (Ranged Statement)
order two b parts =
    option_and_then (λ f. option_map (λ p. option_map (λ o. statements.Order f o p.1) p.0) (order_end two parts))
    (function b)

-- ---- settings

-- a letter with its operand
abbrev pub letter_setting : ℕ → Ranged Operand → Ranged Setting
letter_setting l o = option_map (λ a. record { letter = l; operand = a }) o

-- a setting at the front, and the parts after it: a letter, `=` (61) and an operand
abbrev pub setting : Bool → List LinePart → Option (Ranged Setting × List LinePart)
setting two (sign b ∷ sign e ∷ parts) = if e == 61
    then option_and_then (λ l. option_map (λ p. (letter_setting l p.0, p.1)) (operand two parts)) (setting_letter b)
    else None
setting two _ = None

-- a setting in front of others
abbrev pub both : Ranged Setting → Ranged (List Setting) → Ranged (List Setting)
both (Some s) (Some more) = Some (s ∷ more)
both _ _ = None

-- after a setting: nothing, or a comma (44) and more settings
abbrev pub and_more : Ranged Setting → List LinePart → (List LinePart → Option (Ranged (List Setting)))
    → Option (Ranged (List Setting))
and_more s [] more = Some (option_map (λ a. a ∷ []) s)
and_more s (sign c ∷ parts) more = if c == 44 then option_map (both s) (more parts) else None
and_more s _ more = None

-- one to k settings with commas between
unfoldable pub settings : Bool → ℕ → List LinePart → Option (Ranged (List Setting))
settings two zero parts = None
settings two (suc k) parts = option_and_then (λ p. and_more p.0 p.1 (settings two k)) (setting two parts)

-- nothing, or `with` and one to six settings
abbrev pub with_settings : Bool → List LinePart → Option (Ranged (List Setting))
with_settings two [] = Some (Some [])
with_settings two (run w ∷ parts) = if bytes_eq w (codes "with") then settings two 6 parts else None
with_settings two _ = None

-- ---- statements

-- `word N` or `word -N`: N modulo 2^17
abbrev pub word : List LinePart → Option (Ranged Statement)
word parts = ranged_map (λ z. statements.Number (modulo 17 z)) (integer 65536 131071 parts)

-- `long N` or `long -N`: N modulo 2^35
abbrev pub long : List LinePart → Option (Ranged Statement)
long parts = ranged_map (λ z. statements.Long (modulo 35 z)) (integer 17179869184 34359738367 parts)

-- `text STRING`
abbrev pub text : List LinePart → Option (Ranged Statement)
text parts = option_map (λ rows. Some (statements.Text (array rows))) (string parts)

-- `data STRING`
abbrev pub data_statement : List LinePart → Option (Ranged Statement)
data_statement parts = option_map (λ rows. Some (statements.Rows (array rows))) (string parts)

-- `enter NAME`
abbrev pub enter : List LinePart → Option (Ranged Statement)
enter (run r ∷ []) = if is_name r then Some (Some (statements.Enter r)) else None
enter _ = None

-- nothing, or `at N`
abbrev pub base : List LinePart → Option (Ranged (Option ℕ))
base [] = Some (Some None)
base (run a ∷ run n ∷ []) = if bytes_eq a (codes "at") then ranged_map Some (number_up_to 1023 n) else None
base _ = None

-- `segment NAME` or `segment NAME at N`
abbrev pub segment : List LinePart → Option (Ranged Statement)
segment (run r ∷ parts) = if is_name r then ranged_map (statements.Segment r) (base parts) else None
segment _ = None

-- `use NAME as NAME`, or that followed by `with` and settings
abbrev pub fetch : Bool → List LinePart → Option (Ranged Statement)
fetch two (run r ∷ run a ∷ run n ∷ parts) = if bytes_eq a (codes "as") && (is_name r && is_name n)
    then ranged_map (λ ss. statements.Fetch r n (array ss)) (with_settings two parts) else None
fetch two _ = None

-- a statement that may have a label: an order, `word`, `text` or, in version 2, `long`
abbrev pub placed_statement : Bool → List LinePart → Option (Ranged Statement)
placed_statement two (sign b ∷ parts) = order two b parts
placed_statement two (run w ∷ parts) = if bytes_eq w (codes "word") then word parts
    else if bytes_eq w (codes "text") then text parts
    else if two && bytes_eq w (codes "long") then long parts
    else None
placed_statement two _ = None

-- any statement: `segment`, `use`, `enter`, `data` or one that may have a label
abbrev pub statement : Bool → List LinePart → Option (Ranged Statement)
statement two (run w ∷ parts) = if bytes_eq w (codes "segment") then segment parts
    else if bytes_eq w (codes "use") then fetch two parts
    else if bytes_eq w (codes "enter") then enter parts
    else if bytes_eq w (codes "data") then data_statement parts
    else placed_statement two (run w ∷ parts)
statement two parts = placed_statement two parts

-- ---- lines

-- an empty line
abbrev pub empty : Form
empty = record { label = None; statement = None }

-- a statement alone
abbrev pub unlabelled_line : Bool → List LinePart → Option (Ranged Form)
unlabelled_line two parts = ranged_map (λ s. record { label = None; statement = Some s }) (statement two parts)

-- what follows a label: nothing, or a statement that may have one
abbrev pub after_label : Bool → Text → List LinePart → Option (Ranged Form)
after_label two r [] = Some (Some (record { label = Some r; statement = None }))
after_label two r parts = ranged_map (λ s. record { label = Some r; statement = Some s }) (placed_statement two parts)

-- a line that begins with a label
abbrev pub labelled_line : Bool → Text → List LinePart → Option (Ranged Form)
labelled_line two r parts = if is_place_name two r then after_label two r parts else None

-- a line: empty, or a label, a statement, or both; a colon (58) follows a label
abbrev pub form : Bool → List LinePart → Option (Ranged Form)
form two [] = Some (Some empty)
form two (run r ∷ sign s ∷ parts) = if s == 58 then labelled_line two r parts else unlabelled_line two (run r ∷ sign s ∷ parts)
form two parts = unlabelled_line two parts

-- `version 2`, which may stand on line 1 alone
abbrev pub is_version_two : List LinePart → Bool
is_version_two (run w ∷ run n ∷ []) = bytes_eq w (codes "version") && (is_number n && value n == 2)
is_version_two _ = false

-- the line with the number k: `version 2` on line 1 counts as an empty line
abbrev pub form_at : Bool → ℕ → List LinePart → Option (Ranged Form)
form_at two k parts = if k == 1 && is_version_two parts then Some (Some empty) else form two parts
