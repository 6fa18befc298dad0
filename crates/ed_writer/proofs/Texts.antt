-- The text of a program says its lines.
use Rattle.ed_syntax.proofs.Kit.{[], ap, arith, Bool, codes, Err, false, get_or, IfErr, IfOk, if◌then◌else◌, length}
use Rattle.ed_syntax.proofs.Kit.{List, map, nat_lt, None, Ok, Option, refl, Result, Some, subst, suc, sym, true, ℕ}
use Rattle.ed_syntax.proofs.Kit.{◌&&◌, ◌+◌, ◌<◌, ◌==◌, ◌||◌, ◌∷◌, ◌≡◌, ◌≤◌, list_all, and_parts, Decides-eqb, nat_tests}
use Rattle.ed_syntax.proofs.Kit.{length-map, Text, has_few_settings, SpellsLine, version, ended, has_end, HasLines}
use Rattle.ed_syntax.proofs.Kit.{without_return, is_line_byte, run, AreNumbered, is_line, and_more, IsOfVersion}
use Rattle.ed_syntax.proofs.Kit.{IsPlain, IsProgram, IsVersionTwo, LineSays, LinesSay, no_more, form_text, line_text}
use Rattle.ed_syntax.proofs.Kit.{text_of_program}
use Rattle.ed_writer.specs.Answers.{has_version_place, long_line, is_bare, HasNoText}
use Rattle.ed_writer.specs.Private.LineTexts.{has_few, IsTextOfLines, IsLinesFault}
use Rattle.ed_lines.specs.declared.program.Line.{Line}
use Rattle.ed_lines.specs.declared.program.Statement.{Statement}
use Rattle.ed_writer.specs.declared.fault.WriteFault.TheVariants.{LongLine, NoVersionLine}
use Rattle.std.proofs.Common.{is_none, Vec}
use Rattle.std.specs.declared.alloc.Global.{Global}
use Rattle.ed_syntax.specs.Lines.{nothing}
use Rattle.ed_writer.specs.declared.fault.WriteFault.{WriteFault}
use Rattle.ed_syntax.proofs.Fronts.{front_parts}
use Rattle.ed_syntax.proofs.LineLaws.{one_form}
use Rattle.ed_syntax.proofs.PartsLaws.{parts_are_read}
use Rattle.ed_syntax.proofs.Spelled.{form_spelled, version_front}

-- ---- the bytes of a line

-- what a byte of a line is not: a line feed (10) or a carriage return (13)
record IsInside (b : ℕ) : Type 0 where
  no_feed : (b == 10) ≡ false
  no_return : (b == 13) ≡ false

inside : (b : ℕ) → is_line_byte b ≡ true → IsInside b
inside b e = record { no_feed = by_test 10 refl (b == 10) refl; no_return = by_test 13 refl (b == 13) refl }
  where
    by_test : (x : ℕ) → is_line_byte x ≡ false → (c : Bool) → (b == x) ≡ c → (b == x) ≡ false
    by_test x out true f =
        let same : is_line_byte b ≡ is_line_byte x = ap is_line_byte ((Decides-eqb b x).0 f) in absurd (cc)
    by_test x out false f = f

no_end : (line : Text) → list_all is_line_byte line ≡ true → has_end line ≡ false
no_end [] e = refl
no_end (b ∷ bs) e =
    let p = and_parts _ _ e in
    let here = (inside b p.0).no_feed in
    rw here (no_end bs p.1)

whole_line : (line : Text) → list_all is_line_byte line ≡ true → without_return line ≡ line
whole_line [] e = refl
whole_line (b ∷ []) e =
    let here = (inside b (and_parts _ _ e).0).no_return in rw here refl
whole_line (b ∷ c ∷ bs) e = ap (λ (t : Text). b ∷ t) (whole_line (c ∷ bs) (and_parts (is_line_byte b) _ e).1)

-- ---- one line

-- a text spells a label and a statement, by bytes that may stand in a line
record IsLineText (two : Bool) (k : ℕ) (text : Text) (l : Option Text) (s : Option Statement) : Type 0 where
  spells : SpellsLine two k text (record { label = l; statement = s }) true
  bytes : list_all is_line_byte text ≡ true

-- what one text spells is one label and one statement
record AreSame (l m : Option Text) (s t : Option Statement) : Type 0 where
  label : l ≡ m
  statement : s ≡ t

one_spelling : (two : Bool) (k : ℕ) (text : Text) (l m : Option Text) (s t : Option Statement) → length text ≤ 120
    → SpellsLine two k text (record { label = l; statement = s }) true
    → SpellsLine two k text (record { label = m; statement = t }) true → AreSame l m s t
one_spelling two k text l m s t le e f =
    let same = one_form two k text _ _ le e f in
    record { label = λ i. (same i).label; statement = λ i. (same i).statement }

-- a line with neither label nor statement is the line of a version
version_text : (two : Bool) (l : Option Text) (s : Option Statement) → (is_none l && is_none s) ≡ true
    → IsLineText two 1 (codes "version 2") l s
version_text two None None e = record {
  spells = record {
    parts = run (codes "version") ∷ run (codes "2") ∷ [];
    has_parts = front_parts _ _ version_front;
    spells = version (codes "2") refl refl;
  };
  bytes = refl;
}
version_text two (Some a) s e = absurd (cc)
version_text two None (Some s) e = absurd (cc)

line_is : (two : Bool) (l : Line) → is_line two l ≡ true → has_few two l ≡ true
    → ((two && l.number == 1) ≡ true → is_bare l ≡ true) → IsLineText two l.number (line_text two l) l.label l.statement
line_is two l e few bare = by_version (two && l.number == 1) refl few bare
  where
    first : (t : Bool) → (t && l.number == 1) ≡ true → 1 ≡ l.number
    first true f = sym ((Decides-eqb l.number 1).0 f)
    first false f = absurd (cc)

    by_version : (c : Bool) → (two && l.number == 1) ≡ c → (c || has_few_settings l.statement) ≡ true
        → (c ≡ true → is_bare l ≡ true)
        → IsLineText two l.number (if c then codes "version 2" else form_text l.label l.statement)
        l.label l.statement
    by_version true f g h = rw (← (first two f)) (version_text two l.label l.statement (h refl))
    by_version false f g h =
        let w = form_spelled two l.number l.label l.statement e g in
        record {
          spells = record { parts = w.ps; has_parts = front_parts _ _ w.front; spells = w.spelled };
          bytes = w.front.bytes;
        }

-- ---- lines

-- the lines' numbers run upwards from k
abbrev AreNumberedFrom : ℕ → List Line → Type 0
AreNumberedFrom k lines = (i : ℕ) (d : Line) → i < length lines → (get_or lines i d).number ≡ k + i

-- the text of lines has these lines, and they say what they should say
record SayThemselves (two : Bool) (k : ℕ) (lines : List Line) : Type 0 where
  has_lines : HasLines (text_of_program two lines) (map (line_text two) lines)
  says : LinesSay two k (map (line_text two) lines) lines

-- a line is short, and so are the others
short_first : (two : Bool) (l : Line) (ls : List Line) → long_line two (l ∷ ls) ≡ None
    → (length (line_text two l) ≤ 120) × (long_line two ls ≡ None)
short_first two l ls = by_test (nat_lt 120 (length (line_text two l))) refl
  where
    by_test : (c : Bool) → nat_lt 120 (length (line_text two l)) ≡ c
        → (if c then Some (LongLine l.number) else long_line two ls) ≡ None
        → (length (line_text two l) ≤ 120) × (long_line two ls ≡ None)
    by_test true e f = absurd (cc)
    by_test false e f = (grind (arith, nat_tests), f)

say_themselves : (two : Bool) (k : ℕ) (lines : List Line) → AreNumberedFrom k lines → 1 ≤ k
    → list_all (is_line two) lines ≡ true → list_all (has_few two) lines ≡ true → long_line two lines ≡ None
    → ((two && k == 1) ≡ true → has_version_place two lines ≡ true) → SayThemselves two k lines
say_themselves two k [] numbered some e f g place = record { has_lines = nothing; says = no_more k }
say_themselves two k (l ∷ ls) numbered some e f g place =
    let number : l.number ≡ k = omega (arith, numbered 0 l (omega arith)) in
    let formed = and_parts _ _ e in
    let few = and_parts _ _ f in
    let short = short_first two l ls g in
    let here = line_is two l formed.0 few.0
    (λ t. let first = subst (λ (n : ℕ). (two && n == 1) ≡ true) number t in bare two first (place first)) in
    let rest = say_themselves two (k + 1) ls (λ i d lt. omega (arith, numbered (suc i) d (omega (arith, lt))))
    (omega arith) formed.1 few.1 short.1 (λ t. absurd (later two t)) in
    record {
      has_lines = subst (λ (t : Text). HasLines (text_of_program two (l ∷ ls)) (t ∷ map (line_text two) ls))
          (whole_line _ here.bytes)
          (ended (line_text two l) _ _ (no_end (line_text two l) here.bytes) rest.has_lines);
      says = subst (λ (n : ℕ). LinesSay two k (map (line_text two) (l ∷ ls))
          (record { number = n; label = l.label; statement = l.statement } ∷ ls)) (sym number)
          (and_more k (line_text two l) _ (record { label = l.label; statement = l.statement }) ls (record {
            plain = record { bytes = here.bytes; short = short.0 };
            spells = rw (← number) here.spells;
          }) rest.says);
    }
  where
    bare : (t : Bool) → (t && k == 1) ≡ true → has_version_place t (l ∷ ls) ≡ true → is_bare l ≡ true
    bare true h p = p
    bare false h p = absurd (cc)

    later : (t : Bool) → (t && (k + 1) == 1) ≡ true → ⊥
    later true h = let same : k + 1 ≡ 1 = (Decides-eqb (k + 1) 1).0 h in omega (arith, same, some)
    later false h = absurd (cc)

-- ---- the version

-- a line that says `version 2` spells the empty form, as line 1
version_is_empty : (two : Bool) (line : Text) → IsVersionTwo line
    → SpellsLine two 1 line (record { label = None; statement = None }) true
version_is_empty two line v = record { parts = _; has_parts = v.parts; spells = version v.n v.number v.value_is }

-- no text of a form is the line `version 2`
no_version : (l : Option Text) (s : Option Statement) → IsPlain (form_text l s)
    → SpellsLine false 1 (form_text l s) (record { label = l; statement = s }) true → IsVersionTwo (form_text l s) → ⊥
no_version None None plain spells v = let read = parts_are_read [] _ v.parts in absurd (cc)
no_version (Some a) s plain spells v =
    let same = one_spelling false 1 _ _ _ _ _ plain.short spells (version_is_empty false _ v) in
    absurd (cc)
no_version None (Some s) plain spells v =
    let same = one_spelling false 1 _ _ _ _ _ plain.short spells (version_is_empty false _ v) in
    absurd (cc)

first_says : (two : Bool) (text : Text) (texts : List Text) (l : Line) (ls : List Line)
    → LinesSay two 1 (text ∷ texts) (l ∷ ls) → LineSays two 1 text (record { label = l.label; statement = l.statement })
first_says two _ _ _ _ (and_more k line lines f said s h) = s

version_is : (two : Bool) (lines : List Line) → AreNumberedFrom 1 lines → has_version_place two lines ≡ true
    → LinesSay two 1 (map (line_text two) lines) lines → IsOfVersion two (map (line_text two) lines)
version_is false [] numbered e h = refl
version_is true [] numbered e h = absurd (cc)
version_is false (l ∷ ls) numbered e h =
    let s = first_says false _ _ l ls h in no_version l.label l.statement s.plain s.spells
version_is true (l ∷ ls) numbered e h =
    let number : l.number ≡ 1 = numbered 0 l (omega arith) in
    rw number (record { n = codes "2"; number = refl; value_is = refl; parts = front_parts _ _ version_front })

-- ---- the program

-- the text of a program says its lines
pub program_says : (two : Bool) (lines : List Line) → AreNumbered lines → length lines ≤ 2000
    → list_all (is_line two) lines ≡ true → list_all (has_few two) lines ≡ true → has_version_place two lines ≡ true
    → long_line two lines ≡ None → IsProgram (text_of_program two lines) two lines
program_says two lines numbered size e f place g =
    let from : AreNumberedFrom 1 lines = λ i d lt. omega (arith, numbered i d lt) in
    let s = say_themselves two 1 lines from (omega arith) e f g (λ t. place) in
    let same : length (map (line_text two) lines) ≡ length lines = length-map lines _ in
    record {
      lines = map (line_text two) lines;
      has_lines = s.has_lines;
      few = omega (arith, same, size);
      version = version_is two lines from place s.says;
      says = s.says;
    }

-- if there is no line for `version 2`, no text says the lines
pub IsProgram-unsaid : (two : Bool) (lines : List Line) → has_version_place two lines ≡ false → (text : Text)
    → IsProgram text two lines → ⊥
IsProgram-unsaid two lines e text p = by_lines two p.lines lines e p.version p.says
  where
    bare : (l : Line) → AreSame l.label None l.statement None → is_bare l ≡ true
    bare l same = λ i. is_none (same.label i) && is_none (same.statement i)

    by_lines : (t : Bool) (texts : List Text) (said : List Line) → has_version_place t said ≡ false
        → IsOfVersion t texts → LinesSay t 1 texts said → ⊥
    by_lines false texts said f v h = absurd (cc)
    by_lines true [] said f v h = absurd (cc)
    by_lines true (line ∷ texts) [] f v h = elim h [ ]
    by_lines true (line ∷ texts) (l ∷ ls) f v h =
        let s = first_says true line texts l ls h in
        let same = one_spelling true 1 line _ _ _ _ s.plain.short s.spells (version_is_empty true line v) in
        absurd (cc)

-- lines without a line for `version 2` are the only ones that no text says
pub fault_says : (two : Bool) (lines : List Line) (e : WriteFault) → IsLinesFault two lines e → HasNoText two lines e
fault_says two lines NoVersionLine h = absurd (none lines h)
  where
    none : (ls : List Line) → long_line two ls ≡ Some NoVersionLine → ⊥
    none [] f = absurd (cc)
    none (l ∷ ls) f = by_test (nat_lt 120 (length (line_text two l))) f (none ls)
      where
        by_test : (c : Bool) → (if c then Some (LongLine l.number) else long_line two ls) ≡ Some NoVersionLine
            → (long_line two ls ≡ Some NoVersionLine → ⊥) → ⊥
        by_test true g more = absurd (cc)
        by_test false g more = more g
fault_says two lines e h = tt

-- what was written says the program's lines
pub written_says : (two : Bool) (seen lines : List Line) (r : Result (Vec ℕ Global) WriteFault) → seen ≡ lines
    → AreNumbered lines → length lines ≤ 2000 → list_all (is_line two) lines ≡ true
    → has_version_place two lines ≡ true → IfOk r (λ text. IsTextOfLines two seen text.items)
    → IfOk r (λ _. list_all (has_few two) seen ≡ true) → IfOk r (λ text. IsProgram text.items two lines)
written_says two seen lines (Err e) same numbered size formed place w few = tt
written_says two seen lines (Ok text) same numbered size formed place w few =
    let all = subst (λ (ls : List Line). list_all (has_few two) ls ≡ true) same few in
    let here = subst (λ (ls : List Line). IsTextOfLines two ls text.items) same w in
    rw here.is (program_says two lines numbered size formed all place here.none_long)

-- what was not written
pub IfErr-unwritten : (two : Bool) (seen lines : List Line) (r : Result (Vec ℕ Global) WriteFault) → seen ≡ lines
    → IfErr r (λ e. IsLinesFault two seen e) → IfErr r (λ e. HasNoText two lines e)
IfErr-unwritten two seen lines (Ok text) same h = tt
IfErr-unwritten two seen lines (Err e) same h = fault_says two lines e (rw (← same) h)
