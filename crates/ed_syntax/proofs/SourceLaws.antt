-- A source says what is read in it, or has the fault that is found.
use Rattle.ed_syntax.proofs.Kit.{[], ap, arith, Bool, codes, Err, false, get_or, IfErr, IfOk, if◌then◌else◌, inl, inr}
use Rattle.ed_syntax.proofs.Kit.{length, List, nat_lt, None, not, Ok, Option, refl, Result, Some, suc, sym}
use Rattle.ed_syntax.proofs.Kit.{true, zero, ℕ, ◌&&◌, ◌++◌, ◌+◌, ◌<◌, ◌==◌, ◌∙◌, ◌∷◌, ◌≡◌, ◌≤◌, ◌⊎◌, list_all, rules}
use Rattle.ed_syntax.proofs.Kit.{and_parts, le-leb, le-ltb, ltb-true, Decides-eqb, nat_tests, bytes_eq-Decides, value}
use Rattle.ed_syntax.proofs.Kit.{Text, number_of, ended, HasLines, lines_of}
use Rattle.ed_syntax.proofs.Kit.{with_byte, without_return, is_line_byte, LinePart, run, IsFaultOf}
use Rattle.ed_syntax.proofs.Kit.{parts_of, Fault, line_of, lines_from, or_cause, with_first, and_more}
use Rattle.ed_syntax.proofs.Kit.{IsFormFault, IsOfVersion, IsPlain, IsProgram, IsVersionTwo, LineSays, LinesSay}
use Rattle.ed_syntax.proofs.Kit.{no_more, SourceCause, BadByte, NotAStatement, NumberRange, SourceFault, At, Memory}
use Rattle.ed_syntax.proofs.Kit.{Form, Line}
use Rattle.std.proofs.Common.{lit≤}
use Rattle.std.proofs.Math.Bool.{and-true}
use Rattle.std.proofs.Math.Seq.{get_or-append_seam}
use Rattle.std.proofs.lemmas.Bool.{cases_order, both_ways, cond_both, false_from_ne_true, ltb-false}
use Rattle.ed_syntax.proofs.Kit.{SpellsLine}
use Rattle.std.proofs.lemmas.List.{get_or_append_left, length-append}
use Rattle.ed_syntax.specs.Lines.{nothing, last}
use Rattle.ed_syntax.specs.Reading.Sources.{and_lines, is_two, says_two, version_of, program_of}
use Rattle.ed_syntax.specs.Sources.{LineHasFault, SourceHasFormFault, IsProgramOrFault, HasOneMeaning, HasFormFault}
use Rattle.ed_lines.specs.declared.fault.SourceCause.TheVariants.{LongLine, TooManyLines}
use Rattle.ed_lines.specs.declared.program.Program.{Program}
use Rattle.ed_lines.proofs.Causes.{number_of-least, one_least}
use Rattle.ed_syntax.proofs.LineLaws.{form_of, spelled_is_read, read_form_is_spelled, fits_once, one_form}
use Rattle.ed_syntax.proofs.LineLaws.{out_of_range_is_spelled, unread_is_unspelled}
use Rattle.ed_syntax.proofs.PartsLaws.{parts_are_read, read_parts_are}
use Rattle.ed_syntax.proofs.Lines
use Rattle.ed_syntax.proofs.Programs.{numbered}

-- ---- the lines of a text

-- the lines that a text has are those that are read in it
pub lines_are_read : (text : Text) (lines : List Text) → HasLines text lines → lines_of text ≡ lines
lines_are_read _ _ nothing = refl
lines_are_read _ _ (last b bs e) = Lines.unended b bs e
lines_are_read _ _ (ended line text lines e h) =
    Lines.lines_of-ended line text e ∙ ap (λ (t : List Text). without_return line ∷ t) (lines_are_read text lines h)

-- a text has one list of lines
pub one_lines : {text : Text} {lines others : List Text} → HasLines text lines → HasLines text others → lines ≡ others
one_lines {text} {lines} {others} h g = sym (lines_are_read text lines h) ∙ lines_are_read text others g

-- whether a line feed comes first
abbrev begins_feed : Text → Bool
begins_feed [] = false
begins_feed (b ∷ bs) = b == 10

-- a byte before the first line
longer : (b : ℕ) (text : Text) (lines : List Text) → (b == 10) ≡ false → ((b == 13) && begins_feed text) ≡ false
    → HasLines text lines → HasLines (b ∷ text) (with_byte b lines)
longer b _ _ e g nothing = last b [] (rw e refl)
longer b _ _ e g (last c bs f) = last b (c ∷ bs) (rw e f)
longer b _ _ e g (ended [] text lines f h) =
    let kept : without_return (b ∷ []) ≡ b ∷ [] = rw (sym (and-true (b == 13)) ∙ g) refl in
    rw (← kept) (ended (b ∷ []) text lines (rw e refl) h)
longer b _ _ e g (ended (c ∷ l) text lines f h) = ended (b ∷ c ∷ l) text lines (rw e f) h

-- the lines that are read in a text are those that it has
pub read_lines_are : (text : Text) → HasLines text (lines_of text)
read_lines_are [] = nothing
read_lines_are (b ∷ []) = cond_both (b == 10) _ _ (HasLines (b ∷ []))
    (λ e. rw ((Decides-eqb b 10).0 e) (ended [] [] [] refl nothing)) (λ e. last b [] (rw e refl))
read_lines_are (b ∷ c ∷ bs) =
    cond_both (b == 10) _ _ (HasLines (b ∷ c ∷ bs))
    (λ e. rw ((Decides-eqb b 10).0 e) (ended [] (c ∷ bs) _ refl (read_lines_are (c ∷ bs))))
    (λ e. cond_both ((b == 13) && (c == 10)) _ _ (HasLines (b ∷ c ∷ bs)) (λ f.
    let p = and_parts (b == 13) (c == 10) f in
    rw ((Decides-eqb b 13).0 p.0, (Decides-eqb c 10).0 p.1) (ended (13 ∷ []) bs _ refl (read_lines_are bs)))
    (λ f. longer b (c ∷ bs) _ e f (read_lines_are (c ∷ bs))))

-- ---- one line

-- the fault of a line with the least number
pub record IsLeastOfLine (two : Bool) (k : ℕ) (line : Text) (c : SourceCause) : Type 0 where
  pub is : LineHasFault two k line c
  pub least : (d : SourceCause) → LineHasFault two k line d → number_of c ≤ number_of d

-- what is said of an answer for a line
abbrev IsAnswer : Bool → ℕ → Text → Result Form SourceCause → Type 0
IsAnswer two k line (Ok f) = LineSays two k line f
IsAnswer two k line (Err c) = k ≤ 2000 → IsLeastOfLine two k line c

-- the faults that a line has, if its bytes are those of a line, if it is plain, or if it says something
good_least : (two : Bool) (k : ℕ) (line : Text) → list_all is_line_byte line ≡ true → (d : SourceCause)
    → LineHasFault two k line d → 2 ≤ number_of d
good_least two k line bytes d h = search (rules, both_ways, lit≤)

plain_least : (two : Bool) (k : ℕ) (line : Text) → IsPlain line → (d : SourceCause) → LineHasFault two k line d
    → 3 ≤ number_of d
plain_least two k line p d h = search (rules, both_ways, lit≤)

formed_least : (two : Bool) (k : ℕ) (line : Text) (f : Form) (fits : Bool) → IsPlain line
    → SpellsLine two k line f fits → (d : SourceCause) → LineHasFault two k line d → 4 ≤ number_of d
formed_least two k line f fits p s NotAStatement h = absurd (h.1 f fits s)
formed_least two k line f fits p s BadByte h = absurd (omega (arith, plain_least two k line p BadByte h))
formed_least two k line f fits p s LongLine h = absurd (omega (arith, plain_least two k line p LongLine h))
formed_least two k line f fits p s d h = lit≤ tt

many_least : (two : Bool) (k : ℕ) (line : Text) → k ≡ 2001 → (d : SourceCause) → LineHasFault two k line d
    → 5 ≤ number_of d
many_least two k line is d h = search (rules, lit≤)

pub line_answers : (two : Bool) (k : ℕ) (line : Text) → IsAnswer two k line (line_of two k line)
line_answers two k line = go (list_all is_line_byte line) (nat_lt 120 (length line)) (form_of two k line) refl refl refl
  where
    go : (a b : Bool) (o : Option (Option Form)) → list_all is_line_byte line ≡ a → nat_lt 120 (length line) ≡ b
        → form_of two k line ≡ o
        → IsAnswer two k line (if not a then Err BadByte else if b then Err LongLine else or_cause o)
    go false b o e f g = λ le. record { is = (le, e); least = λ d h. number_of-least d }
    go true true o e f g = λ le. record { is = (le, ltb-true 120 _ f); least = good_least two k line e }
    go true false None e f g = λ le.
        let short = ltb-false 120 _ f in record {
          is = (le, unread_is_unspelled two k line (le-leb _ 120 short) g);
          least = plain_least two k line (record { bytes = e; short = short });
        }
    go true false (Some None) e f g = λ le.
        let p : IsPlain line = record { bytes = e; short = ltb-false 120 _ f } in
        let out = out_of_range_is_spelled two k line g in
        record { is = (le, out); least = formed_least two k line out.0 false p out.1 }
    go true false (Some (Some x)) e f g = record {
      plain = record { bytes = e; short = ltb-false 120 _ f };
      spells = read_form_is_spelled two k line x g;
    }

plain_line : (two : Bool) (k : ℕ) (line : Text) → IsPlain line
    → line_of two k line ≡ or_cause (form_of two k line)
plain_line two k line p = search (rules, le-ltb)

-- what a line says is read
pub said_is_read : (two : Bool) (k : ℕ) (line : Text) (f : Form) → LineSays two k line f → line_of two k line ≡ Ok f
said_is_read two k line f s =
    plain_line two k line s.plain ∙ ap or_cause (spelled_is_read two k line f true s.plain.short s.spells)

-- a line that says something has no fault
said_is_faultless : (two : Bool) (k : ℕ) (line : Text) (f : Form) → k ≤ 2000 → LineSays two k line f
    → (c : SourceCause) → LineHasFault two k line c → ⊥
said_is_faultless two k line f few s BadByte h = let bytes = s.plain.bytes in both_ways _ h.1 bytes
said_is_faultless two k line f few s LongLine h = let short = s.plain.short in omega (arith, h.1)
said_is_faultless two k line f few s NotAStatement h = h.1 f true s.spells
said_is_faultless two k line f few s NumberRange h = fits_once two k line f h.1.0 s.plain.short s.spells h.1.1
said_is_faultless two k line f few s c h = grind arith

-- ---- the version

two_says : (line : Text) → says_two (parts_of line) ≡ true → IsVersionTwo line
two_says line = by_parts (parts_of line) refl
  where
    by_parts : (o : Option (List LinePart)) → parts_of line ≡ o → says_two o ≡ true → IsVersionTwo line
    by_parts (Some (run w ∷ run n ∷ [])) e h =
        let p = and_parts _ _ h in
        let q = and_parts _ _ p.1 in
        let version : w ≡ codes "version" = (bytes_eq-Decides w _).0 p.0 in
        let parts = read_parts_are line (run (codes "version") ∷ run n ∷ []) (rw version at e) in
        record { n = n; number = q.0; value_is = (Decides-eqb (value n) 2).0 q.1; parts = parts }
    by_parts o e h = absurd (cc)

-- the version that is read is that of the lines
pub version_is_of : (lines : List Text) → IsOfVersion (is_two lines) lines
version_is_of lines = search (rules, two_says, parts_are_read)

pub only_version : (lines : List Text) (two : Bool) → IsOfVersion two lines → is_two lines ≡ two
only_version lines two v = search (rules, parts_are_read, false_from_ne_true, two_says)

-- ---- lines one after the other

-- the first fault of these lines, and what the lines before it say
pub record FaultFrom (two : Bool) (k : ℕ) (lines : List Text) (number : ℕ) (cause : SourceCause) : Type 0 where
  pub before : List Text
  pub line : Text
  pub after : List Text
  pub said : List Line
  pub lines_are : lines ≡ before ++ line ∷ after
  pub says : LinesSay two k before said
  pub number_is : number ≡ length before + k
  pub few : number ≤ 2001
  pub faulty : IsLeastOfLine two number line cause

-- the lines say these, and there are not too many
pub record SayFrom (two : Bool) (k : ℕ) (lines : List Text) (said : List Line) : Type 0 where
  pub says : LinesSay two k lines said
  pub few : length lines + k ≤ 2001

abbrev pub IsAnswerFrom : Bool → ℕ → List Text → Result (List Line) Fault → Type 0
IsAnswerFrom two k lines (Ok said) = SayFrom two k lines said
IsAnswerFrom two k lines (Err e) = FaultFrom two k lines e.line e.cause

one_more : (two : Bool) (k : ℕ) (line : Text) (lines : List Text) (f : Form) (r : Result (List Line) Fault)
    → LineSays two k line f → IsAnswerFrom two (k + 1) lines r
    → IsAnswerFrom two k (line ∷ lines) (with_first (numbered k f) r)
one_more two k line lines f (Ok said) s h =
    let few = h.few in
    record { says = and_more k line lines f said s h.says; few = omega (arith, few) }
one_more two k line lines f (Err e) s h =
    record {
      before = line ∷ h.before;
      line = h.line;
      after = h.after;
      said = numbered k f ∷ h.said;
      lines_are = ap (λ (t : List Text). line ∷ t) h.lines_are;
      says = and_more k line h.before f h.said s h.says;
      number_is = omega arith;
      few = h.few;
      faulty = h.faulty;
    }

at_once : (two : Bool) (k : ℕ) (line : Text) (lines : List Text) (c : SourceCause) → k ≤ 2001
    → IsLeastOfLine two k line c → FaultFrom two k (line ∷ lines) k c
at_once two k line lines c few h = record {
  before = [];
  line = line;
  after = lines;
  said = [];
  lines_are = refl;
  says = no_more k;
  number_is = omega arith;
  few = few;
  faulty = h;
}

pub lines_answer : (two : Bool) (k : ℕ) (lines : List Text) → k ≤ 2001
    → IsAnswerFrom two k lines (lines_from two k lines)
lines_answer two k [] le = record { says = no_more k; few = omega arith }
lines_answer two k (line ∷ lines) le = cond_both (k == 2001) _ _ (IsAnswerFrom two k (line ∷ lines)) (λ e.
    let is = (Decides-eqb k 2001).0 e in
    at_once two k line lines TooManyLines le (record { is = is; least = many_least two k line is })) (λ e.
    let few : k ≤ 2000 = grind (arith, nat_tests) in
    by_line _ _ few (line_answers two k line) (lines_answer two (k + 1) lines (omega (arith, few))))
  where
    by_line : (r : Result Form SourceCause) (rest : Result (List Line) Fault) → k ≤ 2000
        → IsAnswer two k line r → IsAnswerFrom two (k + 1) lines rest
        → IsAnswerFrom two k (line ∷ lines) (and_lines k r rest)
    by_line (Ok f) rest few s h = one_more two k line lines f rest s h
    by_line (Err c) rest few s h = at_once two k line lines c le (s few)

-- what lines say is read
pub say_is_read : (two : Bool) (k : ℕ) (lines : List Text) (said : List Line) → LinesSay two k lines said
    → length lines + k ≤ 2001 → lines_from two k lines ≡ Ok said
say_is_read two _ _ _ (no_more k) le = refl
say_is_read two _ _ _ (and_more k line lines f said s h) le =
    let more : (k == 2001) ≡ false = grind (arith, nat_tests) in
    rw (more, said_is_read two k line f s, say_is_read two (k + 1) lines said h (omega arith)) refl

-- the line at an index says what is said at its number
says_at : {two : Bool} {k : ℕ} {lines : List Text} {said : List Line} (n : ℕ) → LinesSay two k lines said
    → n < length lines → (f : Form) × LineSays two (k + n) (get_or lines n []) f
says_at n (no_more k) lt = absurd (omega (arith, lt))
says_at {two} zero (and_more k line lines f said s h) lt =
    let number : k ≡ k + zero = omega arith in (f, rw (← number) s)
says_at {two} (suc n) (and_more k line lines f said s h) lt =
    let later = says_at n h (omega (arith, lt)) in
    let number : k + 1 + n ≡ k + suc n = omega arith in
    (later.0, rw (← number) later.1)

-- ---- a source

pub version_is_read : (text : Text) (two : Bool) (said : List Line) → IsProgram text two said
    → is_two (lines_of text) ≡ two
version_is_read text two said p = search (rules, lines_are_read, only_version)

pub program_is_read : (text : Text) (two : Bool) (said : List Line) → IsProgram text two said
    → program_of text ≡ Ok said
program_is_read text two said p =
    rw (version_is_read text two said p, lines_are_read text p.lines p.has_lines)
    (say_is_read two 1 p.lines said p.says (omega arith))

-- whether the source is of version 2, as it is read, and its line at an index
abbrev is_second : Text → Bool
is_second text = is_two (lines_of text)

abbrev line_at : Text → ℕ → Text
line_at text i = get_or (lines_of text) i []

line_here : {lines : List Text} (before : List Text) (line : Text) (after : List Text) → lines ≡ before ++ line ∷ after
    → get_or lines (length before) [] ≡ line
line_here before line after e = rw e (get_or-append_seam before line after [])

-- the line of a fault, among the lines that are read
faulty_line : {text : Text} {n : ℕ} {c : SourceCause} → (h : SourceHasFormFault text n c)
    → LineHasFault (is_second text) n (line_at text (length h.before)) c
faulty_line {text} {n} {c} h =
    let lines = lines_are_read text _ h.has_lines in
    rw (lines, only_version _ h.two h.version, get_or-append_seam h.before h.line h.after []) h.faulty

-- the first fault that is found is the fault of the source
fault_of : (text : Text) (n : ℕ) (c : SourceCause) → FaultFrom (is_second text) 1 (lines_of text) n c
    → IsFormFault text n c
fault_of text n c h = record {
  is = record {
    two = is_second text;
    before = h.before;
    line = h.line;
    after = h.after;
    has_lines = rw (← h.lines_are) (read_lines_are text);
    version = rw (← h.lines_are) (version_is_of (lines_of text));
    number_is = h.number_is;
    faulty = h.faulty.is;
  };
  least = λ m d g. by_order m d g (cases_order _ _);
}
  where
    -- a line before it says something
    said : (i : ℕ) → i < length h.before → (f : Form) × LineSays (is_second text) (1 + i) (line_at text i) f
    said i lt =
        let says = says_at i h.says lt in
        let same : get_or h.before i [] ≡ line_at text i =
        sym (get_or_append_left h.before _ [] i lt) ∙ sym (ap (λ (x : List Text). get_or x i []) h.lines_are) in
        (says.0, rw (← same) says.1)

    by_order : (m : ℕ) (d : SourceCause) (g : SourceHasFormFault text m d)
        → (length h.before ≡ length g.before) ⊎
        ((length h.before < length g.before) ⊎ (length g.before < length h.before))
        → (n < m) ⊎ ((n ≡ m) × (number_of c ≤ number_of d))
    by_order m d g (inl e) =
        let same : m ≡ n = omega (arith, e) in
        let line : line_at text (length g.before) ≡ h.line =
        ap (λ (i : ℕ). line_at text i) (sym e) ∙ line_here h.before h.line h.after h.lines_are in
        inr (
          sym same,
          h.faulty.least d (rw (← line) (rw (← same) (faulty_line g))),
        )
    by_order m d g (inr (inl lt)) = inl (omega (arith, lt))
    by_order m d g (inr (inr lt)) =
        let number : m ≡ 1 + length g.before = omega arith in
        let says = said (length g.before) lt in
        absurd (said_is_faultless _ _ _ says.0 (omega (arith, lt)) says.1 d (rw (← number) (faulty_line g)))

-- what a reading of a source says
abbrev pub IsSourceAnswer : Text → Result (List Line) Fault → Type 0
IsSourceAnswer text (Ok said) = IsProgram text (is_two (lines_of text)) said
IsSourceAnswer text (Err e) = IsFormFault text e.line e.cause

pub source_answer : (text : Text) (r : Result (List Line) Fault) → program_of text ≡ r → IsSourceAnswer text r
source_answer text r e = search (rules, lines_answer, read_lines_are, version_is_of, fault_of)

-- ---- the law of sources

every_source : (text : Text) → IsProgramOrFault text
every_source text = go (program_of text) refl
  where
    go : (r : Result (List Line) Fault) → program_of text ≡ r → IsProgramOrFault text
    go (Ok said) e = inl (is_two (lines_of text), said, source_answer text (Ok said) e)
    go (Err x) e = inr (x.line, x.cause, source_answer text (Err x) e)

-- no line of a source that says something has a fault
no_fault : (text : Text) (two : Bool) (said : List Line) (n : ℕ) (c : SourceCause) → IsProgram text two said
    → SourceHasFormFault text n c → ⊥
no_fault text two said n c p h =
    let same = one_lines p.has_lines h.has_lines in
    let size = length-append h.before (h.line ∷ h.after) in
    let below : length h.before < length p.lines = omega (arith, size, ap length same) in
    let says = says_at (length h.before) p.says below in
    let version : h.two ≡ two =
    sym (only_version _ h.two h.version) ∙ rw same at (only_version p.lines two p.version) in
    let number : n ≡ 1 + length h.before = omega arith in
    said_is_faultless two _ h.line says.0 (omega (arith, below))
    (rw (line_here h.before h.line h.after same) at says.1) c
    (rw (version, number) at h.faulty)

-- two answers of one call are the same
one_answer : (r : Result (List Line) Fault) (said others : List Line) → r ≡ Ok said → r ≡ Ok others → said ≡ others
one_answer r said others e f = cc

pub has_one_meaning : HasOneMeaning
has_one_meaning = record {
  one_form = λ two k line f g s t. one_form two k line f g s.plain.short s.spells t.spells;
  every = every_source;
  one_version = λ text two also said others p q.
      sym (version_is_read text two said p) ∙ version_is_read text also others q;
  one_program = λ text two also said others p q.
      one_answer _ said others (program_is_read text two said p) (program_is_read text also others q);
  no_fault = no_fault;
  one_fault = λ text n m c d f g. one_least f g;
}

-- what is read with its version is what the source says
pub answer_says : (text : Text) (version : ℕ) (said : List Line) → version ≡ version_of text
    → program_of text ≡ Ok said → IsProgram text (version == 2) said
answer_says text version said e h =
    let p = source_answer text (Ok said) h in
    rw (ap (λ (v : ℕ). v == 2) e ∙ tested _) p
  where
    tested : (two : Bool) → ((if two then 2 else 1) == 2) ≡ two
    tested true = refl
    tested false = refl

pub answer_has_fault : (text : Text) (e : SourceFault) → IsFaultOf (program_of text) e → HasFormFault text e
answer_has_fault text (At n c) h = source_answer text (Err (record { line = n; cause = c })) h
answer_has_fault text Memory h = tt

pub each_answer_has_fault : {A : Type 0} (text : Text) (r : Result A SourceFault)
    → IfErr r (λ e. IsFaultOf (program_of text) e) → IfErr r (λ e. HasFormFault text e)
each_answer_has_fault text r h = search (rules, answer_has_fault)

pub each_answer_says : (text : Text) (r : Result Program SourceFault)
    → IfOk r (λ p. p.version ≡ version_of text) → IfOk r (λ p. program_of text ≡ Ok p.lines.items)
    → IfOk r (λ p. IsProgram text (p.version == 2) p.lines.items)
each_answer_says text r e h = search (rules, answer_says)
