-- The text of an accepted source is never too long for the program, and ends with the lines that its text ends with.
use Rattle.ed_programs.proofs.Kit.{nat_tests, ◌&&◌, ne_eqb, Line, Label, Enter, IsProgram, INPUT_BYTES, [], ap}
use Rattle.ed_programs.proofs.Kit.{append_assoc, arith, Bool, codes, false, if◌then◌else◌, length, length-append, List}
use Rattle.ed_programs.proofs.Kit.{lit≤, nat_le, None, Ok, pos, refl, Some, sym, true, ℕ, ◌*◌, ◌++◌, ◌+◌, ◌==◌, ◌∙◌}
use Rattle.ed_programs.proofs.Kit.{◌∷◌, ◌≡◌, ◌≤◌, and_from, and_parts, le-leb, leb-true, Text, settings, lines_from}
use Rattle.ed_programs.proofs.Kit.{text_of_lines, checked_text, EntersChecker, use_check, rules}
use Rattle.ed_syntax.proofs.Kit.{ended, HasLines, lines_of, with_byte, without_return, and_more, LinesSay, no_more}
use Rattle.ed_syntax.specs.Lines.{nothing, last}
use Rattle.ed_syntax.proofs.Lines.{empty_line}
use Rattle.ed_syntax.proofs.SourceLaws.{lines_are_read, say_is_read}
use Rattle.ed_programs.proofs.Answered.{are_short}

-- ---- how long it is

say_short : (two : Bool) (k : ℕ) (lines : List Text) (said : List Line) → LinesSay two k lines said
    → are_short lines ≡ true
say_short two _ _ _ (no_more k) = refl
say_short two _ _ _ (and_more k line lines f said s h) =
    and_from _ _ (le-leb (length line) 120 s.plain.short) (say_short two (k + 1) lines said h)

-- a line end has at most two bytes
end_short : (line : Text) → length line ≤ length (without_return line) + 1
end_short [] = lit≤ tt
end_short (b ∷ []) = grind (arith, nat_tests)
end_short (b ∷ c ∷ bs) = let rest = end_short (c ∷ bs) in omega (arith, rest)

text_short : (text : Text) (lines : List Text) → HasLines text lines → are_short lines ≡ true
    → length text ≤ 122 * length lines
text_short _ _ nothing h = lit≤ tt
text_short _ _ (last b bs plain) h = grind (arith, nat_tests)
text_short _ _ (ended line text lines plain more) h =
    let p = and_parts (nat_le (length (without_return line)) 120) (are_short lines) h in
    let few = leb-true (length (without_return line)) 120 p.0 in
    omega (arith, end_short line, text_short text lines more p.1, length-append line (10 ∷ text))

-- a source that says some lines has at most 262,144 bytes
pub source_short : (text : Text) (two : Bool) (said : List Line) → IsProgram text two said → length text ≤ INPUT_BYTES
source_short text two said p = search (rules, text_short, say_short)

-- ---- how it ends

-- lines that are at least one, and then those of a text
abbrev Ahead : List Text → Text → Type 0
Ahead lines rest = (first : Text) × (more : List Text) × (lines ≡ first ∷ (more ++ lines_of rest))

one_more : (lines : List Text) (rest : Text) → Ahead lines rest → Ahead ([] ∷ lines) rest
one_more lines rest a = ([], a.0 ∷ a.1, ap (λ (ls : List Text). [] ∷ ls) a.2)

-- the lines of a text whose first byte may be a line end, or the first of two
choice : (feed both : Bool) (b : ℕ) (one two : List Text) (rest : Text) → Ahead one rest → Ahead ([] ∷ two) rest
    → Ahead (if feed then [] ∷ one else if both then [] ∷ two else with_byte b one) rest
choice true both b one two rest x y = one_more one rest x
choice false true b one two rest x y = y
choice false false b one two rest x y = (b ∷ x.0, x.1, ap (with_byte b) x.2)

-- those of a text that goes on after a line feed
lines_ahead : (front rest : Text) → Ahead (lines_of (front ++ 10 ∷ rest)) rest
lines_ahead [] rest = ([], [], empty_line rest)
lines_ahead (b ∷ []) rest =
    choice (b == 10) (b == 13 && 10 == 10) b (lines_of (10 ∷ rest)) (lines_of rest) rest (lines_ahead [] rest)
    ([], [], refl)
lines_ahead (b ∷ c ∷ front) rest =
    choice (b == 10) (b == 13 && c == 10) b (lines_of (c ∷ (front ++ 10 ∷ rest))) (lines_of (front ++ 10 ∷ rest))
    rest (lines_ahead (c ∷ front) rest) (one_more _ rest (lines_ahead front rest))

-- what the last of some lines say, and what the lines before them say
pub record Last (two : Bool) (start : ℕ) (lines rest : List Text) (said : List Line) : Type 0 where
  pub number : ℕ
  pub before : List Line
  pub behind : List Line
  pub said_are : said ≡ before ++ behind
  pub number_is : number + length rest ≡ start + length lines
  pub says : LinesSay two number rest behind

last_say : (two : Bool) (k : ℕ) (lines : List Text) (said : List Line) → LinesSay two k lines said
    → (front rest : List Text) → lines ≡ front ++ rest → Last two k lines rest said
last_say two k lines said s [] rest e = search rules
last_say two _ _ _ (no_more k) (first ∷ front) rest e = absurd (cc)
last_say two _ _ _ (and_more k line lines f said s h) (first ∷ front) rest e =
    let l = last_say two (k + 1) lines said h front rest (cc) in
    let number = l.number_is in
    record {
      number = l.number;
      before = record { number = k; label = f.label; statement = f.statement } ∷ l.before;
      behind = l.behind;
      said_are = ap (λ (x : List Line). record { number = k; label = f.label; statement = f.statement } ∷ x) l.said_are;
      number_is = omega (arith, number);
      says = l.says;
    }

-- ---- the source that is made for a guest

-- its last two lines
abbrev pub use_line : ℕ → Line
use_line k = record { number = k; label = None; statement = use_check (codes "c") (Label (codes "main") (pos 0)) }

abbrev pub enter_line : ℕ → Line
enter_line k = record { number = k; label = None; statement = Some (Enter (codes "c")) }

abbrev pub use_text : Text
use_text = codes "use check as c with H=main"

abbrev enter_text : Text
enter_text = codes "enter c"

abbrev pub last_texts : List Text
last_texts = use_text ∷ enter_text ∷ []

abbrev pub last_lines : ℕ → List Line
last_lines k = use_line k ∷ enter_line (k + 1) ∷ []

-- what they say, whether or not one is the first line, which alone may have a version
last_read : (two : Bool) (k : ℕ) → k + 2 ≤ 2001 → lines_from two k last_texts ≡ Ok (last_lines k)
unfolding settings
last_read two k few = search (rules, ne_eqb)

-- lines that end so enter the routine
abbrev pub enters_at : (k : ℕ) (before lines : List Line) → lines ≡ before ++ last_lines k → EntersChecker lines
enters_at k before lines are = record {
  name = codes "c";
  first = Label (codes "main") (pos 0);
  before = before;
  using = use_line k;
  stands = record { after = enter_line (k + 1) ∷ []; lines_are = are };
  uses = refl;
  ahead = before ++ use_line k ∷ [];
  entering = enter_line (k + 1);
  follows = record {
    after = [];
    lines_are = are ∙ sym (append_assoc before (use_line k ∷ []) (enter_line (k + 1) ∷ []));
  };
  enters = refl;
}

-- over the order at main
pub record EntersFromMain (lines : List Line) : Type 0 where
  pub enters : EntersChecker lines
  pub first : enters.first ≡ Label (codes "main") (pos 0)

pub enters_from_main : (guest : Text) (two : Bool) (said : List Line) → IsProgram (checked_text guest) two said
    → EntersFromMain said
enters_from_main guest two said p =
    let a = lines_ahead guest (text_of_lines last_texts) in
    let l = last_say two 1 p.lines said p.says (a.0 ∷ a.1) last_texts
    (sym (lines_are_read (checked_text guest) p.lines p.has_lines) ∙ a.2) in
    let number = l.number_is in
    let few : l.number + 2 ≤ 2001 = (let most = p.few in omega arith) in
    let read = say_is_read two l.number last_texts l.behind l.says (omega arith) in
    let again = last_read two l.number few in
    let last : l.behind ≡ last_lines l.number = cc in
    let all : said ≡ l.before ++ last_lines l.number = l.said_are ∙ ap (λ (ls : List Line). l.before ++ ls) last in
    record { enters = enters_at l.number l.before said all; first = refl }
