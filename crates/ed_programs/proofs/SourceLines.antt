-- What the lines of a source say: most lines by computation, those with data by a proof.
--
-- Only this module uses the definitions of how a source is read.
use Rattle.ed_sources.proofs.Kit.{[], ap, Bool, drop, false, get_or, if◌then◌else◌, length, List, nat_eq, nat_le, None}
use Rattle.ed_sources.proofs.Kit.{Ok, Option, refl, Some, sym, true, ◌||◌, ℕ, ◌+◌, ◌∙◌, ◌∷◌, ◌≡◌, ◌≤◌, list_all}
use Rattle.ed_sources.proofs.Kit.{and_from, and_parts, eqb-true, le-leb, Text, is_line_byte, is_two, line_of}
use Rattle.ed_sources.proofs.Kit.{program_of, text_of_lines}
use Rattle.ed_syntax.proofs.Kit.{Err, Result, ◌&&◌, Fault, LinesSay, and_more, no_more}
use Rattle.ed_syntax.specs.Reading.Sources.{and_lines}
use Rattle.std.proofs.Common.{is_ok, rules}
use Rattle.ed_lines.specs.declared.fault.SourceCause.{SourceCause}
use Rattle.ed_lines.specs.declared.program.Line.{Line}
use Rattle.ed_lines.specs.declared.program.Statement.{Statement}
use Rattle.ed_syntax.proofs.SourceLaws.{line_answers, say_is_read}
use Rattle.ed_sources.proofs.TextLines.{lines_back}
pub use Rattle.ed_sources.proofs.TextLines.{Says, by_parts, ends, reads as says, said_lines}

-- ---- lines by computation

-- a line with data: its number, its text, and what it says
pub record Marked (two : Bool) : Type 0 where
  pub number : ℕ
  pub text : Text
  pub label : Option Text
  pub statement : Statement
  pub says : line_of two number text ≡ Ok (record { label = label; statement = Some statement })

abbrev pub mark : {two : Bool} (k : ℕ) (line : Text) (l : Option Text) (s : Statement)
    → line_of two k line ≡ Ok (record { label = l; statement = Some s }) → Marked two
mark k line l s e = record { number = k; text = line; label = l; statement = s; says = e }

-- the first of lines that were read, or a line that says nothing
abbrev pub first : Result (List Line) Fault → Line
first (Ok (l ∷ ls)) = l
first other = record { number = 0; label = None; statement = None }

-- what a line says: as it is marked, else as it is read
abbrev pub line_said : (two : Bool) → ℕ → Text → List (Marked two) → Line
line_said two k line [] = first (and_lines k (line_of two k line) (Ok []))
line_said two k line (m ∷ ms) =
    if nat_eq m.number k then record { number = k; label = m.label; statement = Some m.statement }
    else line_said two k line ms

-- the lines of a source from the number k upwards
abbrev pub lines_said : (two : Bool) → ℕ → List Text → List (Marked two) → List Line
lines_said two k [] ms = []
lines_said two k (line ∷ lines) ms = line_said two k line ms ∷ lines_said two (k + 1) lines ms

-- whether each of them is marked or has a form
abbrev pub is_marked : {two : Bool} → ℕ → List (Marked two) → Bool
is_marked k [] = false
is_marked k (m ∷ ms) = nat_eq m.number k || is_marked k ms

abbrev pub are_read : (two : Bool) → ℕ → List Text → List (Marked two) → Bool
are_read two k [] ms = true
are_read two k (line ∷ lines) ms = (is_marked k ms || is_ok (line_of two k line)) && are_read two (k + 1) lines ms

-- the text of a line as it is marked, and of each line
abbrev pub text_said : {two : Bool} → ℕ → Text → List (Marked two) → Text
text_said k line [] = line
text_said k line (m ∷ ms) = if nat_eq m.number k then m.text else text_said k line ms

abbrev pub texts_said : {two : Bool} → ℕ → List Text → List (Marked two) → List Text
texts_said k [] ms = []
texts_said k (line ∷ lines) ms = text_said k line ms ∷ texts_said (k + 1) lines ms

of_ok : {F : Type 0} (Q : Result F SourceCause → Type 0) → ((form : F) → Q (Ok form)) → (r : Result F SourceCause)
    → is_ok r ≡ true → Q r
of_ok Q each (Ok form) h = each form
of_ok Q each (Err cause) h = absurd (cc)

-- so a line says what it is marked with or read as
say_so : (two : Bool) (k : ℕ) (line : Text) (lines : List Text) (said : List Line) → LinesSay two (k + 1) lines said
    → (ms : List (Marked two)) → text_said k line ms ≡ line → (is_marked k ms || is_ok (line_of two k line)) ≡ true
    → LinesSay two k (line ∷ lines) (line_said two k line ms ∷ said)
say_so two k line lines said rest [] same read =
    of_ok (λ r. line_of two k line ≡ r → LinesSay two k (line ∷ lines) (first (and_lines k r (Ok [])) ∷ said))
    (λ form is. and_more k line lines form said (rw is at (line_answers two k line)) rest) (line_of two k line) read
    refl
say_so two k line lines said rest (m ∷ ms) same read =
    by_test (say_so two k line lines said rest ms) (nat_eq m.number k) refl same read
  where
    by_test : (text_said k line ms ≡ line → (is_marked k ms || is_ok (line_of two k line)) ≡ true
        → LinesSay two k (line ∷ lines) (line_said two k line ms ∷ said))
        → (b : Bool) → nat_eq m.number k ≡ b → (if b then m.text else text_said k line ms) ≡ line
        → ((b || is_marked k ms) || is_ok (line_of two k line)) ≡ true
        → LinesSay two k (line ∷ lines) ((if b then record { number = k; label = m.label; statement = Some m.statement }
        else line_said two k line ms) ∷ said)
    by_test other true e same read =
        let number = eqb-true m.number k e in
        let is : line_of two k line ≡ Ok (record { label = m.label; statement = Some m.statement }) =
        (λ i. line_of two (sym number i) (sym same i)) ∙ m.says in
        and_more k line lines (record { label = m.label; statement = Some m.statement }) said
        (rw is at (line_answers two k line)) rest
    by_test other false e same read = other same read

all_say : (two : Bool) (ms : List (Marked two)) (k : ℕ) (lines : List Text) → are_read two k lines ms ≡ true
    → texts_said k lines ms ≡ lines → LinesSay two k lines (lines_said two k lines ms)
all_say two ms k [] read same = no_more k
all_say two ms k (line ∷ lines) read same =
    let p = and_parts (is_marked k ms || is_ok (line_of two k line)) (are_read two (k + 1) lines ms) read in
    say_so two k line lines _ (all_say two ms (k + 1) lines p.1 (ap (drop 1) same)) ms
    (ap (λ (ts : List Text). get_or ts 0 []) same) p.0

-- lines that say something are of a text, and short
pub said_fine : {two : Bool} {k : ℕ} {lines : List Text} {said : List Line} → LinesSay two k lines said
    → (list_all (list_all is_line_byte) lines ≡ true) × (list_all (λ line. nat_le (length line) 120) lines ≡ true)
said_fine (no_more k) = (refl, refl)
said_fine (and_more k line lines form said s rest) = search (rules, and_from, le-leb, said_fine rest)

-- a source is read as its lines say: all but the marked ones by computation
pub source_said : (two : Bool) (lines : List Text) (ms : List (Marked two)) → are_read two 1 lines ms ≡ true
    → texts_said 1 lines ms ≡ lines → LinesSay two 1 lines (lines_said two 1 lines ms)
source_said two lines ms = all_say two ms 1 lines

-- the program of the text of such lines is what they say
pub source_read : (two : Bool) (lines : List Text) {program : List Line} → is_two lines ≡ two
    → LinesSay two 1 lines program → 1 + length lines ≤ 2001 → program_of (text_of_lines lines) ≡ Ok program
source_read two lines {program} version said few = search (rules, lines_back, said_fine, say_is_read)
