-- Which texts spell which lines of a source (this project's own rule). A text has parts, with any blanks between them;
-- the parts spell a form. `two` says whether the source is of version 2. `fits` says whether the numbers of the form
-- are in their ranges: a line spelled with `fits` false has a number out of its range and is not a line of a program.
use Rattle.std.specs.Prelude.{ℕ, ◌≡◌, ◌==◌, ◌&&◌, ◌||◌, not, Bool, true, false, ℤ, pos, nat_le}
use Rattle.std.specs.Prelude.{List, [], ◌∷◌, ◌++◌, codes, length, map, Option, Some, None}
use Rattle.std.specs.List.{list_all}
use Rattle.ed_codes.specs.Spelling.{row_of}
use Rattle.ed_words.specs.Texts.{Text}
use Rattle.ed_words.specs.Decimals.{value}
use Rattle.ed_syntax.specs.Parts.{LinePart, run, sign, quoted, is_blank, begins_run, has_quote}
use Rattle.ed_lines.specs.Names.{is_run_byte}
use Rattle.ed_syntax.specs.Parts.{is_number, with_sign, function, length_of}
use Rattle.ed_lines.specs.Names.{is_name, is_place_name}
use Rattle.ed_syntax.specs.Parts.{setting_letter, array, modulo}
use Rattle.ed_lines.specs.Programs.{is_form}
use Rattle.ed_lines.specs.declared.program.Operand.{Operand}
use Rattle.ed_lines.specs.declared.program.Operand.TheVariants.{Number, Label, Two}
use Rattle.ed_lines.specs.declared.program.Setting.{Setting}
use Rattle.ed_lines.specs.declared.program.Statement.{Statement}
use Rattle.ed_lines.specs.declared.program.Statement.TheVariants as statements
use Rattle.ed_syntax.specs.declared.form.Form.{Form}

-- ---- a text and its parts

-- a byte that is a part by itself: not a blank or tab, not a byte of a run, not `;` (59) and not a quote (34)
abbrev pub is_sign : ℕ → Bool
is_sign b = not (b == 59 || (b == 34 || (is_blank b || is_run_byte b)))

-- The text has these parts. A run ends where no byte of a run follows, so two runs are never adjacent.
pub data HasLineParts : Text → List LinePart → Type 0 where
  nothing : HasLineParts [] []
  comment : (bytes : Text) → HasLineParts (59 ∷ bytes) []
  blank : (b : ℕ) (text : Text) (ps : List LinePart) → is_blank b ≡ true → HasLineParts text ps
      → HasLineParts (b ∷ text) ps
  one_sign : (b : ℕ) (text : Text) (ps : List LinePart) → is_sign b ≡ true → HasLineParts text ps
      → HasLineParts (b ∷ text) (sign b ∷ ps)
  one_string : (q text : Text) (ps : List LinePart) → has_quote q ≡ false → HasLineParts text ps
      → HasLineParts (34 ∷ q ++ 34 ∷ text) (quoted q ∷ ps)
  one_run : (b : ℕ) (r text : Text) (ps : List LinePart) → list_all is_run_byte (b ∷ r) ≡ true
      → begins_run text ≡ false → HasLineParts text ps → HasLineParts ((b ∷ r) ++ text) (run (b ∷ r) ∷ ps)

-- ---- how operands and settings are spelled

-- an operand: a number, a name, a name plus (43) or minus (45) a number, or in version 2 plus or minus a name
pub data SpellsOperand (two : Bool) : List LinePart → Operand → Bool → Type 0 where
  number : (n : Text) → is_number n ≡ true
      → SpellsOperand two (run n ∷ []) (Number (value n)) (nat_le (value n) 32767)
  name : (a : Text) → is_place_name two a ≡ true → SpellsOperand two (run a ∷ []) (Label a (pos 0)) true
  plus : (a n : Text) → is_place_name two a ≡ true → is_number n ≡ true
      → SpellsOperand two (run a ∷ sign 43 ∷ run n ∷ []) (Label a (with_sign false (value n))) (nat_le (value n) 1023)
  minus : (a n : Text) → is_place_name two a ≡ true → is_number n ≡ true
      → SpellsOperand two (run a ∷ sign 45 ∷ run n ∷ []) (Label a (with_sign true (value n))) (nat_le (value n) 1023)
  sum : (a b : Text) → is_place_name two a ≡ true → is_place_name two b ≡ true → two ≡ true
      → SpellsOperand two (run a ∷ sign 43 ∷ run b ∷ []) (Two a b false) true
  difference : (a b : Text) → is_place_name two a ≡ true → is_place_name two b ≡ true → two ≡ true
      → SpellsOperand two (run a ∷ sign 45 ∷ run b ∷ []) (Two a b true) true

-- a setting: a letter, `=` (61) and an operand
pub data SpellsSetting (two : Bool) : List LinePart → Setting → Bool → Type 0 where
  setting : (b l : ℕ) (ps : List LinePart) (o : Operand) (fits : Bool) → setting_letter b ≡ Some l
      → SpellsOperand two ps o fits
      → SpellsSetting two (sign b ∷ sign 61 ∷ ps) (record { letter = l; operand = o }) fits

-- one or more settings, with commas (44) between
pub data SpellsSettings (two : Bool) : List LinePart → List Setting → Bool → Type 0 where
  last : (ps : List LinePart) (s : Setting) (fits : Bool) → SpellsSetting two ps s fits
      → SpellsSettings two ps (s ∷ []) fits
  more : (ps qs : List LinePart) (s : Setting) (ss : List Setting) (fits also : Bool) → SpellsSetting two ps s fits
      → SpellsSettings two qs ss also → SpellsSettings two (ps ++ sign 44 ∷ qs) (s ∷ ss) (fits && also)

-- ---- how statements are spelled

-- a number, or after a minus (45) its negative, from -least to most
pub data SpellsInteger (least most : ℕ) : List LinePart → ℤ → Bool → Type 0 where
  positive : (n : Text) → is_number n ≡ true
      → SpellsInteger least most (run n ∷ []) (with_sign false (value n)) (nat_le (value n) most)
  negative : (n : Text) → is_number n ≡ true
      → SpellsInteger least most (sign 45 ∷ run n ∷ []) (with_sign true (value n)) (nat_le (value n) least)

-- one or more bytes that spell these rows
pub record AreRowsOf (q : Text) (rows : List ℕ) : Type 0 where
  pub some : nat_le 1 (length q) ≡ true
  pub each : map row_of q ≡ map (λ r. Some r) rows

-- a statement that may have a label
pub data SpellsPlaced (two : Bool) : List LinePart → Statement → Bool → Type 0 where
  order : (b f e : ℕ) (ps : List LinePart) (o : Operand) (l fits : Bool) → function b ≡ Some f
      → SpellsOperand two ps o fits → length_of e ≡ Some l
      → SpellsPlaced two (sign b ∷ ps ++ sign e ∷ []) (statements.Order f o l) fits
  bare_order : (b f e : ℕ) (l : Bool) → function b ≡ Some f → length_of e ≡ Some l
      → SpellsPlaced two (sign b ∷ sign e ∷ []) (statements.Order f (Number 0) l) true
  word : (ps : List LinePart) (z : ℤ) (fits : Bool) → SpellsInteger 65536 131071 ps z fits
      → SpellsPlaced two (run (codes "word") ∷ ps) (statements.Number (modulo 17 z)) fits
  long : (ps : List LinePart) (z : ℤ) (fits : Bool) → SpellsInteger 17179869184 34359738367 ps z fits → two ≡ true
      → SpellsPlaced two (run (codes "long") ∷ ps) (statements.Long (modulo 35 z)) fits
  text : (q : Text) (rows : List ℕ) → AreRowsOf q rows
      → SpellsPlaced two (run (codes "text") ∷ quoted q ∷ []) (statements.Text (array rows)) true

-- any statement
pub data SpellsStatement (two : Bool) : List LinePart → Statement → Bool → Type 0 where
  placed : (ps : List LinePart) (s : Statement) (fits : Bool) → SpellsPlaced two ps s fits
      → SpellsStatement two ps s fits
  segment : (a : Text) → is_name a ≡ true
      → SpellsStatement two (run (codes "segment") ∷ run a ∷ []) (statements.Segment a None) true
  segment_at : (a n : Text) → is_name a ≡ true → is_number n ≡ true
      → SpellsStatement two (run (codes "segment") ∷ run a ∷ run (codes "at") ∷ run n ∷ [])
      (statements.Segment a (Some (value n))) (nat_le (value n) 1023)
  fetch : (a b : Text) → is_name a ≡ true → is_name b ≡ true
      → SpellsStatement two (run (codes "use") ∷ run a ∷ run (codes "as") ∷ run b ∷ [])
      (statements.Fetch a b (array [])) true
  fetch_with : (a b : Text) (ps : List LinePart) (ss : List Setting) (fits : Bool) → is_name a ≡ true
      → is_name b ≡ true → SpellsSettings two ps ss fits → nat_le (length ss) 6 ≡ true
      → SpellsStatement two (run (codes "use") ∷ run a ∷ run (codes "as") ∷ run b ∷ run (codes "with") ∷ ps)
      (statements.Fetch a b (array ss)) fits
  enter : (a : Text) → is_name a ≡ true
      → SpellsStatement two (run (codes "enter") ∷ run a ∷ []) (statements.Enter a) true
  data_rows : (q : Text) (rows : List ℕ) → AreRowsOf q rows
      → SpellsStatement two (run (codes "data") ∷ quoted q ∷ []) (statements.Rows (array rows)) true

-- ---- how lines are spelled

-- the line with the number k: empty, a label with its colon (58), a statement, both, or `version 2` as line 1
pub data SpellsForm (two : Bool) : ℕ → List LinePart → Form → Bool → Type 0 where
  empty : (k : ℕ) → SpellsForm two k [] (record { label = None; statement = None }) true
  label : (k : ℕ) (a : Text) → is_place_name two a ≡ true
      → SpellsForm two k (run a ∷ sign 58 ∷ []) (record { label = Some a; statement = None }) true
  statement : (k : ℕ) (ps : List LinePart) (s : Statement) (fits : Bool) → SpellsStatement two ps s fits
      → SpellsForm two k ps (record { label = None; statement = Some s }) fits
  labelled : (k : ℕ) (a : Text) (ps : List LinePart) (s : Statement) (fits : Bool) → is_place_name two a ≡ true
      → SpellsPlaced two ps s fits
      → SpellsForm two k (run a ∷ sign 58 ∷ ps) (record { label = Some a; statement = Some s }) fits
  version : (n : Text) → is_number n ≡ true → value n ≡ 2
      → SpellsForm two 1 (run (codes "version") ∷ run n ∷ []) (record { label = None; statement = None }) true

-- the text spells the form
pub record SpellsLine (two : Bool) (k : ℕ) (text : Text) (f : Form) (fits : Bool) : Type 0 where
  pub parts : List LinePart
  pub has_parts : HasLineParts text parts
  pub spells : SpellsForm two k parts f fits

-- ---- faults of a line

-- the line with the number k has none of the forms, whatever the size of its numbers
abbrev pub IsNoStatement : Bool → ℕ → Text → Type 0
IsNoStatement two k line = (f : Form) (fits : Bool) → SpellsLine two k line f fits → ⊥

-- the line has a form, and a number out of its range
abbrev pub HasNumberOutOfRange : Bool → ℕ → Text → Type 0
HasNumberOutOfRange two k line = (f : Form) × SpellsLine two k line f false

-- ---- the law of lines

-- a statement has no more than six settings
abbrev pub has_few_settings : Option Statement → Bool
has_few_settings (Some (statements.Fetch a b settings)) = nat_le (length settings.items) 6
has_few_settings _ = true

-- each form that a line may have is spelled by some text, which may be longer than a line
abbrev pub EachFormIsSpelled : Type 0
EachFormIsSpelled =
    (two : Bool) (k : ℕ) (f : Form) → is_form two f.label f.statement ≡ true → has_few_settings f.statement ≡ true
    → (text : Text) × SpellsLine two k text f true

-- each form that a text spells, with its numbers in their ranges, is one that a line may have
abbrev pub EachSpelledIsForm : Type 0
EachSpelledIsForm =
    (two : Bool) (k : ℕ) (text : Text) (f : Form) → SpellsLine two k text f true
    → is_form two f.label f.statement ≡ true

-- what a line may say is what texts spell
pub record FormsAreSpelled : Type 0 where
  pub each : EachFormIsSpelled
  pub only : EachSpelledIsForm
